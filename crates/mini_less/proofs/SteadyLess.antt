-- All rows that rest on what is known of a body read less.
use Rattle.std.specs.Prelude.{ℕ}
use Rattle.std.proofs.Common.{inl, inr}
use Rattle.mini_model.specs.declared.place.Position.{Position}
use Rattle.mini_model.specs.Tree.{Tree}
use Rattle.mini_kept.specs.Without.{BodySets}
use Rattle.mini_shrink.specs.Facts.{ReadsLess}
use Rattle.mini_rows.proofs.OwnNarrowed.{code_narrowed, program_narrowed, part_narrowed}
use Rattle.mini_rows.specs.Editions.{SteadyRowsIn}
use Rattle.mini_rows.specs.OwnArrows.{OwnCode}
use Rattle.mini_rows.specs.OwnParts.{OwnPart}
use Rattle.mini_rows.specs.OwnPrograms.{OwnProgram}
use Rattle.mini_rows.specs.PastBlocks.{PastBlocks}
use Rattle.mini_rows.specs.Steady.{LexicalRows, OwnRows, SteadyRow}
use Rattle.mini_less.specs.Own.{OwnReadLess}
use Rattle.mini_less.specs.Steady.{AnyCode, Either, SteadyRewritesReadLess}
use Rattle.mini_less.proofs.InsideLess.{past_inside_reads_less}
use Rattle.mini_less.proofs.InsideUnused.{inside_reads_less}
use Rattle.mini_less.proofs.Joined.{reads_less_joins, reads_less_narrows}
use Rattle.mini_less.proofs.LexicalLess.{lexical_reads_less}
use Rattle.mini_less.proofs.OwnLess.{steady_reads_less}
use Rattle.mini_less.proofs.PastBlocksLess.{past_blocks_read_less}
use Rattle.mini_less.proofs.PastLess.{past_read_less}

either_less : {R Q : Position → Tree → Tree → Type 0} → ReadsLess R → ReadsLess Q → ReadsLess (Either R Q)
either_less {R} {Q} a b = reads_less_joins R Q a b

any_code : (F : OwnRows) → OwnReadLess F → (S : BodySets) → ReadsLess (AnyCode F S)
any_code F a S = either_less {R = Either (OwnCode F S) (OwnProgram F S)} {Q = OwnPart F S} (either_less {R = OwnCode F S} {Q = OwnProgram F S} (a.code S) (a.programs S)) (a.parts S)

-- those of members, where the edition has them
steady_code_reads_less : (e : ℕ) (S : BodySets) → ReadsLess (AnyCode (SteadyRowsIn e) S)
steady_code_reads_less e S = reads_less_narrows (AnyCode (SteadyRowsIn e) S) (AnyCode SteadyRow S) in_edition (any_code SteadyRow steady_reads_less S)
  where
    in_edition : (p : Position) (n w : Tree) → AnyCode (SteadyRowsIn e) S p n w → AnyCode SteadyRow S p n w
    in_edition p n w (inl (inl r)) = inl (inl (code_narrowed (SteadyRowsIn e) SteadyRow (λ V p n w r. r.0) S p n w r))
    in_edition p n w (inl (inr r)) = inl (inr (program_narrowed (SteadyRowsIn e) SteadyRow (λ V p n w r. r.0) S p n w r))
    in_edition p n w (inr r) = inr (part_narrowed (SteadyRowsIn e) SteadyRow (λ V p n w r. r.0) S p n w r)

pub steady_rewrites_read_less : SteadyRewritesReadLess
steady_rewrites_read_less S W =
    let p = past_read_less in
    either_less (either_less (steady_code_reads_less W.switches.edition S) (any_code LexicalRows lexical_reads_less S))
    (either_less (either_less (either_less (either_less (p.functions S W) (p.arrows S W)) (either_less (p.modules S W) (p.statics S W))) (any_code (PastBlocks W.switches) (past_blocks_read_less W.switches) S)) (either_less (inside_reads_less W) (past_inside_reads_less S W)))

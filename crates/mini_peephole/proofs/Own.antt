-- Rows of a family in the own code of whatever has a body keep what is known of bodies, where the
-- rows themselves read less: a step there is one of a row, further inside.
use Rattle.std.specs.Prelude.{ℕ, Bool}
use Rattle.std.proofs.Common.{inl, inr}
use Rattle.mini_model.specs.declared.place.Position.{Position}
use Rattle.mini_model.specs.declared.shape.Shape.{Shape}
use Rattle.mini_model.specs.Tree.{Tree, Trees}
use Rattle.mini_model.specs.Rewriting.{Step, here, inside, StepIn, first, later}
use Rattle.mini_laws.specs.Value.{VariableSet}
use Rattle.mini_kept.specs.KeepsFrames.{KeepsPlaces}
use Rattle.mini_kept.specs.KeepsShapes.{KeepsShapes}
use Rattle.mini_kept.specs.Rooted.{LawfulRooted}
use Rattle.mini_kept.specs.Without.{Assured, BodySets}
use Rattle.mini_shrink.specs.Exact.{exactly_of}
use Rattle.mini_shrink.specs.Facts.{ReadsLess}
use Rattle.mini_rows.specs.PastBlocks.{PastBlocks}
use Rattle.mini_rows.specs.Steady.{OwnRows, LexicalRows, SteadyRow}
use Rattle.mini_rows.specs.Switches.{Switches}
use Rattle.mini_rows.proofs.LexicalKept.{lexical_own}
use Rattle.mini_rows.proofs.OwnProgramLawful.{any_places}
use Rattle.mini_rows.proofs.PastKept.{lost}
use Rattle.mini_rows.proofs.PastLost.{loses_places}
use Rattle.mini_rows.proofs.SteadyKept.{steady_own}
use Rattle.mini_rows.proofs.SteadyLawful.{AnyRow}
use Rattle.mini_less.proofs.OwnLess.{code_step, program_step, part_step, any_shapes, any_reads}
use Rattle.mini_peephole.specs.AnyPasses.{KeepsKnown}
use Rattle.mini_peephole.specs.SteadyRows.{AnyCode}
use Rattle.mini_peephole.proofs.Known.{known_by_less}

-- ---- steps whose instances are steps themselves

module _ (R Q : Position → Tree → Tree → Type 0) (f : (p : Position) (n w : Tree) → R p n w → Step Q p n w) where
  mutual
    deeper : {p : Position} {t u : Tree} → Step R p t u → Step Q p t u
    deeper (here p n w r) = f p n w r
    deeper (inside p h xs n ts us s) = inside p h xs n ts us (deeper_in s)

    deeper_in : {π : ℕ → Position} {ts us : Trees} → StepIn R π ts us → StepIn Q π ts us
    deeper_in (first π t u ts s) = first π t u ts (deeper s)
    deeper_in (later π t ts us s) = later π t ts us (deeper_in s)

-- ---- any family

module _ (F : OwnRows) (S : BodySets) where
  in_code : (p : Position) (n w : Tree) → AnyCode F S p n w → Step (AnyRow F) p n w
  in_code p n w (inl (inl r)) = code_step F S p n w r
  in_code p n w (inl (inr r)) = program_step F S p n w r
  in_code p n w (inr r) = part_step F S p n w r

  pub code_known : (K : Shape → Bool) (W : VariableSet) → LawfulRooted K W S (AnyCode F S) → ((V : Assured) → KeepsPlaces (F V)) → ((V : Assured) → KeepsShapes (F V)) → ((V : Assured) → ReadsLess (F V)) → KeepsKnown exactly_of (AnyCode F S)
  code_known K W l places shapes reads =
      let names = λ (V : Assured). (places V).names in
      known_by_less K W S (AnyCode F S) (AnyRow F) l (λ t u s. deeper (AnyCode F S) (AnyRow F) in_code s) (any_places F places) (any_shapes F names shapes reads) (any_reads F names shapes reads)

-- ---- the families

pub steady_shapes : (V : Assured) → KeepsShapes (SteadyRow V)
steady_shapes V = (steady_own V).shapes

pub lexical_shapes : (V : Assured) → KeepsShapes (LexicalRows V)
lexical_shapes V = (lexical_own V).shapes

-- a block that loses a name keeps places, whichever name it is
module _ (o : Switches) (V : Assured) where
  pub block_places : KeepsPlaces (PastBlocks o V)
  block_places = record {
    names = record {
      places = λ p n w r. let (k, l) = lost o V p n w r in (loses_places k).names.places p n w (V, l);
      pieces = λ p n w r. let (k, l) = lost o V p n w r in (loses_places k).names.pieces p n w (V, l);
      keeps = λ p n w r. let (k, l) = lost o V p n w r in (loses_places k).names.keeps p n w (V, l);
    };
    slots = λ p n w r. let (k, l) = lost o V p n w r in (loses_places k).slots p n w (V, l);
    ports = λ p n w r. let (k, l) = lost o V p n w r in (loses_places k).ports p n w (V, l);
    listed = λ p n w e r. let (k, l) = lost o V p n w r in (loses_places k).listed p n w e (V, l);
    exported = λ p n w r. let (k, l) = lost o V p n w r in (loses_places k).exported p n w (V, l);
  }

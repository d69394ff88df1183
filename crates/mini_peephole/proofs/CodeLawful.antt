-- Rows of each family in the own code of whatever has a body are lawful.
use Rattle.std.specs.Prelude.{ℕ, Bool}
use Rattle.std.proofs.Common.{inl, inr}
use Rattle.mini_model.specs.declared.place.Position.{Position}
use Rattle.mini_model.specs.Tree.{Tree}
use Rattle.mini_model.specs.declared.shape.Shape.{Shape}
use Rattle.mini_laws.specs.Value.{VariableSet}
use Rattle.mini_kept.specs.Rooted.{LawfulRooted}
use Rattle.mini_kept.specs.Without.{BodySets}
use Rattle.mini_kept.proofs.Rooted.{steady_is_rooted, rooted_join, rooted_narrowed}
use Rattle.mini_rows.proofs.OwnNarrowed.{code_narrowed, program_narrowed, part_narrowed}
use Rattle.mini_rows.specs.Editions.{SteadyRowsIn}
use Rattle.mini_rows.specs.OwnArrows.{OwnCode}
use Rattle.mini_rows.specs.OwnParts.{OwnPart}
use Rattle.mini_rows.specs.OwnPrograms.{OwnProgram}
use Rattle.mini_rows.specs.PastBlocks.{PastBlocks}
use Rattle.mini_rows.specs.Steady.{OwnRows, LexicalRows, SteadyRow}
use Rattle.mini_rows.specs.Switches.{Switches}
use Rattle.mini_rows.proofs.OwnArrowLawful.{steady_code_lawful, lexical_code_lawful}
use Rattle.mini_rows.proofs.OwnPartLawful.{steady_parts_lawful, lexical_parts_lawful}
use Rattle.mini_rows.proofs.OwnProgramLawful.{steady_programs_lawful, lexical_programs_lawful}
use Rattle.mini_rows.proofs.PastBlockLawful.{past_blocks_are_lawful, past_blocks_are_lawful_in_programs}
use Rattle.mini_rows.proofs.PastPartLawful.{past_blocks_are_lawful_in_parts}
use Rattle.mini_tree.specs.Rule.{Either}
use Rattle.mini_peephole.specs.SteadyRows.{AnyCode}

-- a row of members that an edition has is one
pub in_edition : (e : ℕ) (S : BodySets) (p : Position) (n w : Tree) → AnyCode (SteadyRowsIn e) S p n w → AnyCode SteadyRow S p n w
in_edition e S p n w (inl (inl r)) = inl (inl (code_narrowed (SteadyRowsIn e) SteadyRow (λ V p n w r. r.0) S p n w r))
in_edition e S p n w (inl (inr r)) = inl (inr (program_narrowed (SteadyRowsIn e) SteadyRow (λ V p n w r. r.0) S p n w r))
in_edition e S p n w (inr r) = inr (part_narrowed (SteadyRowsIn e) SteadyRow (λ V p n w r. r.0) S p n w r)

module _ (K : Shape → Bool) (W : VariableSet) (S : BodySets) where
  -- in functions and arrow functions, in programs, and in static blocks and inner expressions
  any_code : (F : OwnRows) → LawfulRooted K W S (OwnCode F S) → LawfulRooted K W S (OwnProgram F S) → LawfulRooted K W S (OwnPart F S) → LawfulRooted K W S (AnyCode F S)
  any_code F code programs parts = rooted_join (Either (OwnCode F S) (OwnProgram F S)) (OwnPart F S) K W S (rooted_join (OwnCode F S) (OwnProgram F S) K W S code programs) parts

  pub steady_code : LawfulRooted K W S (AnyCode SteadyRow S)
  steady_code = any_code SteadyRow (steady_is_rooted (OwnCode SteadyRow S) K W S (steady_code_lawful K W S)) (steady_programs_lawful K W S) (steady_parts_lawful K W S)

  -- where the edition has them
  pub steady_rows_code : (e : ℕ) → LawfulRooted K W S (AnyCode (SteadyRowsIn e) S)
  steady_rows_code e = rooted_narrowed (AnyCode (SteadyRowsIn e) S) (AnyCode SteadyRow S) K W S (in_edition e S) steady_code

  pub lexical_code : LawfulRooted K W S (AnyCode LexicalRows S)
  lexical_code = any_code LexicalRows (steady_is_rooted (OwnCode LexicalRows S) K W S (lexical_code_lawful K W S)) (lexical_programs_lawful K W S) (lexical_parts_lawful K W S)

pub block_code : (o : Switches) (K : Shape → Bool) (W : VariableSet) (S : BodySets) → LawfulRooted K W S (AnyCode (PastBlocks o) S)
block_code o K W S = any_code K W S (PastBlocks o) (past_blocks_are_lawful o K W S) (past_blocks_are_lawful_in_programs o K W S) (past_blocks_are_lawful_in_parts o K W S)

-- Rows in the own code of a program: a module's statements, or a script's. What is known of names
-- at the top of a script is little, as others may change them; in a module, and in a block, it is
-- what is known of the names of any body.
use Rattle.std.specs.Prelude.{◌≡◌, ℕ, Bool, List, []}
use Rattle.mini_model.specs.declared.place.Position.{Position}
use Rattle.mini_model.specs.declared.place.Position.TheVariants.{StatementList, Elsewhere}
use Rattle.mini_model.specs.declared.shape.Shape.{Shape}
use Rattle.mini_model.specs.declared.shape.Shape.TheVariants as shape
use Rattle.mini_model.specs.Tree.{Tree, node, none, ◌▸◌}
use Rattle.mini_laws.specs.Value.{VariableSet}
use Rattle.mini_laws.specs.Weights.{Lightens}
use Rattle.mini_kept.specs.KeepsFrames.{KeepsPlaces}
use Rattle.mini_kept.specs.Rooted.{LawfulRooted}
use Rattle.mini_kept.specs.Without.{Assured, BodySets}
use Rattle.mini_rows.specs.Steady.{nothing_begun, own_rows, KeepsOwn, OwnRows, OwnStep, SteadyRow, LexicalRows}

-- a program over its list of statements
abbrev pub program_over : Bool → List (List ℕ) → ℕ → Tree → Tree
program_over is_module directives n list = node (shape.Program is_module directives) [] n (list ▸ none)

-- that takes a step by a row of F, over what S says of the body with the program's number
pub record OwnProgramRow (F : OwnRows) (S : BodySets) (n w : Tree) : Type 0 where
  pub is_module : Bool
  pub directives : List (List ℕ)
  pub number : ℕ
  pub before : Tree
  pub after : Tree
  pub step : OwnStep (own_rows F before (S number)) nothing_begun StatementList before after
  pub shape : n ≡ program_over is_module directives number before
  pub written : w ≡ program_over is_module directives number after

-- it is a root
abbrev pub OwnProgram : OwnRows → BodySets → Position → Tree → Tree → Type 0
OwnProgram F S Elsewhere n w = OwnProgramRow F S n w
OwnProgram F S _ n w = ⊥

-- ---- the laws

-- What is written there keeps all that a program has to keep, whichever functions and classes may
-- lose their own name and whichever variables can be written, where rows of F leave imports,
-- exports and functions where they stand
abbrev pub OwnProgramsAreLawful : OwnRows → Type 0
OwnProgramsAreLawful F = ((V : Assured) → KeepsOwn V (F V)) → ((V : Assured) → KeepsPlaces (F V)) → (K : Shape → Bool) (W : VariableSet) (S : BodySets) → LawfulRooted K W S (OwnProgram F S)

-- and is lighter
abbrev pub OwnProgramsLighten : OwnRows → Type 0
OwnProgramsLighten F = ((V : Assured) → KeepsOwn V (F V)) → (S : BodySets) → Lightens (OwnProgram F S)

-- so of 38 of members, and of 80 and 84 with lexical names
abbrev pub SteadyProgram : BodySets → Position → Tree → Tree → Type 0
SteadyProgram = OwnProgram SteadyRow

abbrev pub LexicalProgram : BodySets → Position → Tree → Tree → Type 0
LexicalProgram = OwnProgram LexicalRows

abbrev pub SteadyProgramsAreLawful : Type 0
SteadyProgramsAreLawful = (K : Shape → Bool) (W : VariableSet) (S : BodySets) → LawfulRooted K W S (SteadyProgram S)

abbrev pub SteadyProgramsLighten : Type 0
SteadyProgramsLighten = (S : BodySets) → Lightens (SteadyProgram S)

abbrev pub LexicalProgramsAreLawful : Type 0
LexicalProgramsAreLawful = (K : Shape → Bool) (W : VariableSet) (S : BodySets) → LawfulRooted K W S (LexicalProgram S)

abbrev pub LexicalProgramsLighten : Type 0
LexicalProgramsLighten = (S : BodySets) → Lightens (LexicalProgram S)

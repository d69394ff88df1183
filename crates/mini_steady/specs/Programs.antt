-- What is done in the own code of a program.
use Rattle.std.specs.Prelude.{◌≡◌, nat_eq, Bool, true, false, ◌&&◌}
use Rattle.mini_model.specs.declared.place.Position.{Position}
use Rattle.mini_model.specs.declared.place.Position.TheVariants.{Elsewhere}
use Rattle.mini_model.specs.Tree.{Tree, children, count, shape_of}
use Rattle.mini_kept.specs.Rooted.{is_program as is_program_shape}
use Rattle.mini_kept.specs.Without.{BodySets}
use Rattle.mini_node.specs.Children.{names_of}
use Rattle.mini_rows.specs.OwnPrograms.{OwnProgramRow, OwnProgram}
use Rattle.mini_rows.specs.Steady.{OwnRows}
use Rattle.mini_steady.specs.Chains.{Several}
use Rattle.mini_steady.specs.Functions.{are_no_names}

-- a module or a script, with its list of statements
abbrev pub is_program : Tree → Bool
is_program t = is_program_shape (shape_of t) && (are_no_names (names_of t) && nat_eq (count (children t)) 1)

-- steps in its own code by rows of F, or none, and then no row reads it
abbrev pub AppliedInProgram : OwnRows → BodySets → Tree → Tree → Bool → Type 0
AppliedInProgram F S t u true = Several (OwnProgramRow F S) t u
AppliedInProgram F S t u false = (u ≡ t) × ((w : Tree) → OwnProgramRow F S t w → ⊥)

-- no row reads it where it stands
abbrev pub ProgramRests : OwnRows → BodySets → Position → Tree → Type 0
ProgramRests F S p t = (w : Tree) → OwnProgram F S p t w → ⊥

-- where a root stands
abbrev pub holds_program : Position → Bool
holds_program Elsewhere = true
holds_program p = false

-- The rewrites of names that can be written as one. Each is lighter in every seat.
use Rattle.std.specs.Prelude.{◌≡◌, ℕ, Option, Some, None}
use Rattle.mini_model.specs.declared.place.Position.TheVariants.{Expr}
use Rattle.mini_model.specs.declared.seat.Seat.{Seat}
use Rattle.mini_model.specs.declared.shape.Shape.{Shape}
use Rattle.mini_model.specs.declared.shape.Shape.TheVariants as shape
use Rattle.mini_model.specs.Tree.{Tree, shape_of}
use Rattle.mini_laws.specs.Value.{VariableSet}
use Rattle.mini_rows.specs.Editions.{WritesIn}
use Rattle.mini_choices.specs.Choices.{first_of, since}
use Rattle.mini_choices.specs.InjectAssignedChaining as chains
use Rattle.mini_choices.specs.MinimizeAssignedComparison as compare
use Rattle.mini_choices.specs.MinimizeAssignedNullishComparison as nullish
use Rattle.mini_choices.specs.MinimizeNormalAssignmentToCombinedLogicalAssignment as combine
use Rattle.mini_choices.specs.MinimizeNormalAssignmentToCombinedLogicalAssignment.{RestsOver}

abbrev pub conditional_written : VariableSet → Seat → Tree → Option Tree
conditional_written W s t = first_of (compare.written W t) (chains.written W s t)

abbrev pub written_by : ℕ → Shape → VariableSet → Seat → Tree → Option Tree
written_by e (shape.AssignmentExpression o) W s t = since 2021 e (combine.written W t)
written_by e (shape.LogicalExpression o) W s t = nullish.written W t
written_by e shape.ConditionalExpression W s t = since 2020 e (conditional_written W s t)
written_by e h W s t = None

-- what is written for an expression in its seat where a row reads it, of these variables, and the
-- edition has its form
abbrev pub written : ℕ → VariableSet → Seat → Tree → Option Tree
written e W s t = written_by e (shape_of t) W s t

-- what is written is what a row says, and lighter
abbrev pub WritesAreRows : Type 0
WritesAreRows = (e : ℕ) (W : VariableSet) (s : Seat) (n w : Tree) → written e W s n ≡ Some w → WritesIn e W (Expr s) n w

-- and where nothing is written the rule rests
abbrev pub UnwrittenRest : Type 0
UnwrittenRest = (e : ℕ) (W : VariableSet) (s : Seat) (n : Tree) → written e W s n ≡ None → RestsOver e W (Expr s) n

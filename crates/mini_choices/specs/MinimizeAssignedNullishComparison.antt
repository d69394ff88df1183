-- 37, of `minimize_logical_expression`, of a name that the first test assigns to:
-- `(x = a) === null || x === undefined` becomes `(x = a) == null`, and
-- `(x = a) !== null && x !== undefined` becomes `(x = a) != null`, in any order, and after an equal
-- operator to the left, where x can be written.
use Rattle.std.specs.Prelude.{Bool, Option, Some, None, ◌&&◌, if◌then◌else◌}
use Rattle.mini_model.specs.Tree.{Tree}
use Rattle.mini_laws.specs.Value.{VariableSet}
use Rattle.mini_node.specs.Children.{part}
use Rattle.mini_node.specs.Kinds.{logical_operator, is_logical}
use Rattle.mini_rows.specs.Choices.{joining}
use Rattle.mini_choices.specs.Assigning.{is_same_name}
use Rattle.mini_choices.specs.Forms.{are_nullish}
use Rattle.mini_choices.specs.MinimizeNullishComparison.{joins_in, is_strict, loose, after}
use Rattle.mini_choices.specs.MinimizeNormalAssignmentToCombinedLogicalAssignment.{writes_name}

-- an assignment to a name, which can be written, and that name
abbrev pub assigns_it : VariableSet → Tree → Tree → Bool
assigns_it W t x = writes_name W t && is_same_name (part t 0) x

-- the first compares such an assignment, and the second the name, with null and with undefined
abbrev pub compares : VariableSet → Bool → Tree → Tree → Bool
compares W equal a b = is_strict equal a && (is_strict equal b && (assigns_it W (part a 0) (part b 0) && are_nullish (part a 1) (part b 1)))

-- the second of two behind an equal operator, and what follows it
abbrev pub compares_after : VariableSet → Bool → Tree → Bool
compares_after W equal t = is_logical (joining equal) (part t 0) && compares W equal (part (part t 0) 1) (part t 1)

abbrev pub after_written : VariableSet → Bool → Tree → Option Tree
after_written W equal t = if compares_after W equal t then Some (after equal t) else None

abbrev pub written_by : Option Bool → VariableSet → Tree → Option Tree
written_by (Some equal) W t = if compares W equal (part t 0) (part t 1) then Some (loose equal (part t 0)) else after_written W equal t
written_by None W t = None

abbrev pub written : VariableSet → Tree → Option Tree
written W t = written_by (joins_in (logical_operator t)) W t

-- 36, `minimize_assignment_to_update_expression`: `t -= 1` becomes `--t`, `t -= -1` becomes `++t`.
use Rattle.std.specs.Prelude.{Bool, true, false, Option, Some, None, pos, negsuc, ℤ, suc, zero, if◌then◌else◌}
use Rattle.mini_model.specs.declared.operator.AssignmentOperator.{AssignmentOperator}
use Rattle.mini_model.specs.declared.operator.AssignmentOperator.TheVariants.{Subtraction}
use Rattle.mini_model.specs.declared.operator.UpdateOperator.{UpdateOperator}
use Rattle.mini_model.specs.declared.operator.UpdateOperator.TheVariants.{Increment, Decrement}
use Rattle.mini_model.specs.Tree.{Tree}
use Rattle.mini_node.specs.Children.{part}
use Rattle.mini_node.specs.Kinds.{number, assignment_operator}
use Rattle.mini_rows.specs.Spellings.{steps}

-- the operator by which a target steps from which this number is subtracted: 1, or -1
abbrev pub step_in : Option ℤ → Option UpdateOperator
step_in (Some (pos (suc zero))) = Some Decrement
step_in (Some (negsuc zero)) = Some Increment
step_in n = None

abbrev pub is_subtraction : Option AssignmentOperator → Bool
is_subtraction (Some Subtraction) = true
is_subtraction o = false

-- and that by which the target of `t -= 1` does
abbrev pub step_of : Tree → Option UpdateOperator
step_of t = if is_subtraction (assignment_operator t) then step_in (number (part t 1)) else None

abbrev pub written_by : Option UpdateOperator → Tree → Option Tree
written_by (Some o) t = Some (steps o (part t 0))
written_by None t = None

abbrev pub written : Tree → Option Tree
written t = written_by (step_of t) t

-- 35, `minimize_normal_assignment_to_combined_assignment`: `x = x + b` becomes `x += b`, and
-- `x.k = x.k + b` `x.k += b`, and so of the other operators of numbers.
use Rattle.std.specs.Prelude.{Option, Some, None, ◌&&◌, if◌then◌else◌}
use Rattle.mini_model.specs.declared.operator.AssignmentOperator.{AssignmentOperator}
use Rattle.mini_model.specs.declared.operator.BinaryOperator.{BinaryOperator}
use Rattle.mini_model.specs.Tree.{Tree}
use Rattle.mini_node.specs.Children.{part}
use Rattle.mini_node.specs.Kinds.{assignment, assignment_operator, binary_operator}
use Rattle.mini_rows.specs.Choices.{computing}
use Rattle.mini_choices.specs.Assigning.{is_plain, is_same_target}

-- the operator of the assignment, if there is one
abbrev pub computing_in : Option BinaryOperator → Option AssignmentOperator
computing_in (Some o) = computing o
computing_in None = None

-- the operator of the `x += b` that is written for `x = x + b`
abbrev pub combined_operator : Tree → Option AssignmentOperator
combined_operator t = if is_plain (assignment_operator t) && is_same_target (part t 0) (part (part t 1) 0) then computing_in (binary_operator (part t 1)) else None

-- `x += b`
abbrev pub combined : AssignmentOperator → Tree → Tree
combined o t = assignment o (part t 0) (part (part t 1) 1)

abbrev pub written_by : Option AssignmentOperator → Tree → Option Tree
written_by (Some o) t = Some (combined o t)
written_by None t = None

abbrev pub written : Tree → Option Tree
written t = written_by (combined_operator t) t

-- 38, `minimize_logical_expression`: `x || (x = b)` becomes `x ||= b`, and so of `&&` and `??`.
use Rattle.std.specs.Prelude.{Option, Some, None, ◌&&◌, if◌then◌else◌}
use Rattle.mini_model.specs.declared.operator.LogicalOperator.{LogicalOperator}
use Rattle.mini_model.specs.Tree.{Tree}
use Rattle.mini_node.specs.Children.{part}
use Rattle.mini_node.specs.Kinds.{assignment, logical_operator}
use Rattle.mini_rows.specs.Choices.{deciding}
use Rattle.mini_choices.specs.Assigning.{assigns_name, is_same_name}

abbrev pub deciding_in : Option LogicalOperator → Tree → Tree → Option LogicalOperator
deciding_in (Some o) left right = if assigns_name right && is_same_name left (part right 0) then Some o else None
deciding_in None left right = None

-- the operator of `x || (x = b)`
abbrev pub deciding_operator : Tree → Option LogicalOperator
deciding_operator t = deciding_in (logical_operator t) (part t 0) (part t 1)

-- `x ||= b`, of the assignment
abbrev pub decided : LogicalOperator → Tree → Tree
decided o t = assignment (deciding o) (part t 0) (part t 1)

abbrev pub written_by : Option LogicalOperator → Tree → Option Tree
written_by (Some o) t = Some (decided o t)
written_by None t = None

abbrev pub written : Tree → Option Tree
written t = written_by (deciding_operator t) (part t 1)

-- 39, `substitute_rotate_logical_expression`: `a && (b && c)` becomes `a && b && c`, and so of `||`
-- and `??`, however many operands stand on the right.
use Rattle.std.specs.Prelude.{Option, Some, None, ◌&&◌, not, if◌then◌else◌}
use Rattle.mini_model.specs.declared.operator.LogicalOperator.{LogicalOperator}
use Rattle.mini_model.specs.Tree.{Tree, Trees, node, none, ◌▸◌, absent, child_or_absent, logical}
use Rattle.mini_node.specs.Children.{part}
use Rattle.mini_node.specs.Kinds.{is_logical, logical_operator}
use Rattle.mini_rows.specs.Choices.{is_grouped}

-- the first of the operands that the operator joins
abbrev mutual
  pub leftmost : LogicalOperator → Tree → Tree
  leftmost o (node h xs n ts) = if is_logical o (node h xs n ts) then leftmost_in o ts else node h xs n ts

  pub leftmost_in : LogicalOperator → Trees → Tree
  leftmost_in o none = absent
  leftmost_in o (t ▸ ts) = leftmost o t

-- a, and after it the operands that the operator joins
abbrev mutual
  pub rotated_over : LogicalOperator → Tree → Tree → Tree
  rotated_over o a (node h xs n ts) = if is_logical o (node h xs n ts) then logical o (rotated_over_in o a ts) (child_or_absent ts 1) else logical o a (node h xs n ts)

  pub rotated_over_in : LogicalOperator → Tree → Trees → Tree
  rotated_over_in o a none = logical o a absent
  rotated_over_in o a (t ▸ ts) = rotated_over o a t

abbrev pub rotated_in : Option LogicalOperator → Tree → Option LogicalOperator
rotated_in (Some o) right = if is_logical o right && not (is_grouped o (leftmost o (part right 0))) then Some o else None
rotated_in None right = None

-- the operator of `a && (b && c)`
abbrev pub rotated_operator : Tree → Option LogicalOperator
rotated_operator t = rotated_in (logical_operator t) (part t 1)

-- `a && b && c`
abbrev pub rotated : LogicalOperator → Tree → Tree
rotated o t = logical o (rotated_over o (part t 0) (part (part t 1) 0)) (part (part t 1) 1)

abbrev pub written_by : Option LogicalOperator → Tree → Option Tree
written_by (Some o) t = Some (rotated o t)
written_by None t = None

abbrev pub written : Tree → Option Tree
written t = written_by (rotated_operator t) t

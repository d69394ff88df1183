-- 13, and 15 of `??`, where the left side does something: `(x = []) && b` becomes `x = [], b`,
-- where that is lighter.
use Rattle.std.specs.Prelude.{Bool, false, Option, Some, None, ◌&&◌, if◌then◌else◌}
use Rattle.mini_model.specs.declared.operator.LogicalOperator.{LogicalOperator}
use Rattle.mini_model.specs.declared.seat.Seat.{Seat}
use Rattle.mini_model.specs.Tree.{Tree}
use Rattle.mini_node.specs.Children.{part}
use Rattle.mini_node.specs.Kinds.{logical_operator}
use Rattle.mini_terms.specs.Folds.{goes_on}
use Rattle.mini_rows.specs.Choices.{pair}
use Rattle.mini_choices.specs.MinimizeConditionalBranches.{is_lighter}

-- `a, b` of `a && b`
abbrev pub both_sides : Tree → Tree
both_sides t = pair (part t 0) (part t 1)

-- after the left side the right one is always evaluated
abbrev pub goes_on_in : Option LogicalOperator → Tree → Bool
goes_on_in (Some o) left = goes_on o left
goes_on_in None left = false

abbrev pub evaluates_both : Seat → Tree → Bool
evaluates_both s t = goes_on_in (logical_operator t) (part t 0) && is_lighter s (both_sides t) t

abbrev pub written : Seat → Tree → Option Tree
written s t = if evaluates_both s t then Some (both_sides t) else None

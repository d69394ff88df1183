-- 38, `minimize_logical_sequence`: `x || (a, x = b)` becomes `x ||= (a, b)`, and so of `&&` and
-- `??`, where an assignment has no parentheses that the operator hasn't.
use Rattle.std.specs.Prelude.{ℕ, suc, Bool, true, false, Option, Some, None, ◌&&◌, if◌then◌else◌}
use Rattle.mini_model.specs.declared.operator.LogicalOperator.{LogicalOperator}
use Rattle.mini_model.specs.declared.seat.Seat.{Seat}
use Rattle.mini_model.specs.Tree.{Tree, Trees, none, ◌▸◌, child_or_absent, children}
use Rattle.mini_node.specs.Children.{part, with_child}
use Rattle.mini_node.specs.Kinds.{assignment, is_sequence, logical_operator, sequence}
use Rattle.mini_rows.specs.Choices.{deciding, keeps_parentheses}
use Rattle.mini_choices.specs.Assigning.{assigns_name, is_same_name}

-- the place of the last of some parts
abbrev pub last_place : Trees → ℕ
last_place none = 0
last_place (t ▸ none) = 0
last_place (t ▸ (u ▸ ts)) = suc (last_place (u ▸ ts))

-- there are two at least
abbrev pub are_several : Trees → Bool
are_several (t ▸ (u ▸ ts)) = true
are_several ts = false

-- the last of the parts assigns to this name
abbrev pub assigns_last : Tree → Trees → Bool
assigns_last x ts = are_several ts && (assigns_name (child_or_absent ts (last_place ts)) && is_same_name x (part (child_or_absent ts (last_place ts)) 0))

-- the parts of what is evaluated where the operator goes on
abbrev pub parts_of : Tree → Trees
parts_of t = children (part (part t 1) 0)

abbrev pub deciding_in : Option LogicalOperator → Seat → Tree → Option LogicalOperator
deciding_in (Some o) s t = if keeps_parentheses o s && (is_sequence (part t 1) && assigns_last (part t 0) (parts_of t)) then Some o else None
deciding_in None s t = None

-- the operator of `x || (a, x = b)`
abbrev pub deciding_operator : Seat → Tree → Option LogicalOperator
deciding_operator s t = deciding_in (logical_operator t) s t

-- the parts with the value of the last, which is assigned, in its place
abbrev pub with_value : Trees → Trees
with_value ts = with_child ts (last_place ts) (part (child_or_absent ts (last_place ts)) 1)

-- `x ||= (a, b)`
abbrev pub decided : LogicalOperator → Tree → Tree
decided o t = assignment (deciding o) (part t 0) (sequence (with_value (parts_of t)))

abbrev pub written_by : Option LogicalOperator → Tree → Option Tree
written_by (Some o) t = Some (decided o t)
written_by None t = None

abbrev pub written : Seat → Tree → Option Tree
written s t = written_by (deciding_operator s t) t

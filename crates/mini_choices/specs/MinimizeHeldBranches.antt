-- 42, 43 and 49, of `minimize_conditional_expression`: a branch that stands in two places of a
-- conditional is written once, where that is lighter. `a ? b ? c : d : d` becomes `a && b ? c : d`,
-- `a ? b || c : c` becomes `a && b || c`, `a ? (b, c) : c` becomes `a && b, c`, the same of the
-- alternate with `||`, and `a ? b : b` becomes `a, b`.
use Rattle.std.specs.Prelude.{ℕ, Bool, Option, Some, None, ◌&&◌, if◌then◌else◌}
use Rattle.mini_model.specs.declared.operator.LogicalOperator.{LogicalOperator}
use Rattle.mini_model.specs.declared.operator.LogicalOperator.TheVariants.{Or, And}
use Rattle.mini_model.specs.declared.seat.Seat.{Seat}
use Rattle.mini_model.specs.Tree.{Tree, logical, conditional, children}
use Rattle.mini_node.specs.Children.{part, has_count}
use Rattle.mini_node.specs.Kinds.{is_conditional, is_logical, is_sequence}
use Rattle.mini_node.specs.Equal.{same_tree}
use Rattle.mini_rows.specs.Choices.{pair}
use Rattle.mini_rows.specs.Nesting.{may_join}
use Rattle.mini_choices.specs.MinimizeConditionalBranches.{is_lighter}

-- ---- what stands in a branch, and what is written

-- `b, c`
abbrev pub is_pair : Tree → Bool
is_pair t = is_sequence t && has_count (children (part t 0)) 2

-- the part at a place of a sequence
abbrev pub item : Tree → ℕ → Tree
item t i = part (part t 0) i

-- the branch is a conditional, and its own branch at this place the other one
abbrev pub chooses : Tree → ℕ → Tree → Bool
chooses branch i other = is_conditional branch && same_tree (part branch i) other

-- the branch is `b || c` or `b && c`, and c the other one
abbrev pub decides : LogicalOperator → Tree → Tree → Bool
decides o branch other = is_logical o branch && same_tree (part branch 1) other

-- the branch is `b, c`, and c the other one
abbrev pub follows : Tree → Tree → Bool
follows branch other = is_pair branch && same_tree (item branch 1) other

-- `a && b ? c : d` of `a ? b ? c : d : d`
abbrev pub consequent_chosen : Tree → Tree
consequent_chosen t = conditional (logical And (part t 0) (part (part t 1) 0)) (part (part t 1) 1) (part t 2)

-- `a || b ? c : d` of `a ? c : b ? c : d`
abbrev pub alternate_chosen : Tree → Tree
alternate_chosen t = conditional (logical Or (part t 0) (part (part t 2) 0)) (part t 1) (part (part t 2) 2)

-- `a && b || c` of `a ? b || c : c`
abbrev pub consequent_decided : Tree → Tree
consequent_decided t = logical Or (logical And (part t 0) (part (part t 1) 0)) (part t 2)

-- `(a || b) && c` of `a ? c : b && c`
abbrev pub alternate_decided : Tree → Tree
alternate_decided t = logical And (logical Or (part t 0) (part (part t 2) 0)) (part t 1)

-- `a && b, c` of `a ? (b, c) : c`
abbrev pub consequent_followed : Tree → Tree
consequent_followed t = pair (logical And (part t 0) (item (part t 1) 0)) (part t 2)

-- `a || b, c` of `a ? c : (b, c)`
abbrev pub alternate_followed : Tree → Tree
alternate_followed t = pair (logical Or (part t 0) (item (part t 2) 0)) (part t 1)

-- `a, b` of `a ? b : b`
abbrev pub both_followed : Tree → Tree
both_followed t = pair (part t 0) (part t 1)

-- ---- whether it does, and is lighter; where an operator joins two tests, it may be put deeper

abbrev pub is_consequent_chosen : Seat → Tree → Bool
is_consequent_chosen s t = (chooses (part t 1) 2 (part t 2) && is_lighter s (consequent_chosen t) t) && may_join (part t 0) (part (part t 1) 0)

abbrev pub is_alternate_chosen : Seat → Tree → Bool
is_alternate_chosen s t = (chooses (part t 2) 1 (part t 1) && is_lighter s (alternate_chosen t) t) && may_join (part t 0) (part (part t 2) 0)

abbrev pub is_consequent_decided : Seat → Tree → Bool
is_consequent_decided s t = decides Or (part t 1) (part t 2) && is_lighter s (consequent_decided t) t

abbrev pub is_alternate_decided : Seat → Tree → Bool
is_alternate_decided s t = decides And (part t 2) (part t 1) && is_lighter s (alternate_decided t) t

abbrev pub is_consequent_followed : Seat → Tree → Bool
is_consequent_followed s t = follows (part t 1) (part t 2) && is_lighter s (consequent_followed t) t

abbrev pub is_alternate_followed : Seat → Tree → Bool
is_alternate_followed s t = follows (part t 2) (part t 1) && is_lighter s (alternate_followed t) t

abbrev pub are_both_alike : Seat → Tree → Bool
are_both_alike s t = same_tree (part t 1) (part t 2) && is_lighter s (both_followed t) t

-- ---- one after another

abbrev pub alike_written : Seat → Tree → Option Tree
alike_written s t = if are_both_alike s t then Some (both_followed t) else None

abbrev pub alternate_followed_written : Seat → Tree → Option Tree
alternate_followed_written s t = if is_alternate_followed s t then Some (alternate_followed t) else alike_written s t

abbrev pub followed_written : Seat → Tree → Option Tree
followed_written s t = if is_consequent_followed s t then Some (consequent_followed t) else alternate_followed_written s t

abbrev pub alternate_decided_written : Seat → Tree → Option Tree
alternate_decided_written s t = if is_alternate_decided s t then Some (alternate_decided t) else followed_written s t

abbrev pub decided_written : Seat → Tree → Option Tree
decided_written s t = if is_consequent_decided s t then Some (consequent_decided t) else alternate_decided_written s t

abbrev pub alternate_chosen_written : Seat → Tree → Option Tree
alternate_chosen_written s t = if is_alternate_chosen s t then Some (alternate_chosen t) else decided_written s t

abbrev pub chosen_written : Seat → Tree → Option Tree
chosen_written s t = if is_consequent_chosen s t then Some (consequent_chosen t) else alternate_chosen_written s t

abbrev pub written : Seat → Tree → Option Tree
written s t = if is_conditional t then chosen_written s t else None

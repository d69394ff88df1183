-- 24, 25 and 26, `minimize_expression_in_boolean_context`, and 47 and 48: where only the truth is
-- asked, `!0` becomes `1`, `a && 1` becomes `a`, and `a ? 1 : b` becomes `a || b`; and where the
-- value is, `a ? false : b` becomes `!a && b`, `a ? true : false` `!!a`, and `a ? 0 : 1` `+!a`.
use Rattle.std.specs.Prelude.{◌≡◌, ◌<◌, ◌^◌, ℤ, pos, zero, suc, Bool, true, false, not, ◌&&◌, ◌||◌, Option, Some, None, nat_lt, if◌then◌else◌}
use Rattle.mini_model.specs.declared.operator.LogicalOperator.{LogicalOperator}
use Rattle.mini_model.specs.declared.operator.UnaryOperator.TheVariants.{LogicalNot}
use Rattle.mini_model.specs.declared.place.Position.{Position}
use Rattle.mini_model.specs.declared.place.Position.TheVariants.{Expr}
use Rattle.mini_model.specs.declared.seat.Seat.{Seat}
use Rattle.mini_model.specs.declared.shape.Shape.{Shape}
use Rattle.mini_model.specs.declared.shape.Shape.TheVariants as shape
use Rattle.mini_model.specs.Tree.{Tree, shape_of, logical}
use Rattle.mini_model.specs.Position.{is_and_or, left_operand_seat}
use Rattle.mini_model.specs.Weight.{weight, capped}
use Rattle.mini_node.specs.Children.{part}
use Rattle.mini_node.specs.Kinds.{number, logical_operator, is_negation, is_conditional}
use Rattle.mini_terms.specs.Evident.{evident_truth}
use Rattle.mini_terms.specs.Folds.{is_effect_free, goes_on}
use Rattle.mini_terms.specs.Kind.{kind}
use Rattle.mini_terms.specs.Parts.{leaves_nothing, weighs}
use Rattle.mini_terms.specs.Reading.{is_plain_part}
use Rattle.mini_rows.specs.Booleans.{digit, is_boolean_kind, giving, is_turned, truth_of, plus, plus_seat, BooleanContracts}
use Rattle.mini_logic.specs.Negating.{lighter_negation}

-- ---- 24

-- the truth of `!0`, and of `!1`
abbrev pub negated_truth : Option ℤ → Option Bool
negated_truth (Some (pos zero)) = Some true
negated_truth (Some (pos (suc zero))) = Some false
negated_truth _ = None

abbrev pub digit_of : Option Bool → Option Tree
digit_of (Some b) = Some (digit b)
digit_of None = None

-- `1` of `!0`, and `0` of `!1`
abbrev pub digit_written : Seat → Tree → Option Tree
digit_written s t = if s.boolean && is_negation t then digit_of (negated_truth (number (part t 0))) else None

-- ---- 25

-- the right side goes: only the truth is asked, and it would be that of the left side
abbrev pub is_told : Seat → LogicalOperator → Tree → Tree → Bool
is_told s o a b = s.boolean && (is_and_or o && (goes_on o b && (is_effect_free b && (leaves_nothing b && (weighs b && is_plain_part a)))))

abbrev pub left_written : Seat → Option LogicalOperator → Tree → Tree → Option Tree
left_written s (Some o) a b = if is_told s o a b then Some a else None
left_written s None a b = None

-- ---- 26 and 47

-- the truth of what may go, where it is known
abbrev pub known_truth : Tree → Option Bool
known_truth t = if is_effect_free t && leaves_nothing t then evident_truth t else None

-- the consequent, or the alternate
abbrev pub branch_at : Bool → Tree → Tree
branch_at true t = part t 1
branch_at false t = part t 2

-- only the truth is asked; or the branch is a boolean, and so is the test, if it isn't negated
abbrev pub may_join : Seat → Bool → Bool → Tree → Tree → Bool
may_join s is_consequent truth test branch = s.boolean || (is_boolean_kind (kind branch) && (is_turned is_consequent truth || is_boolean_kind (kind test)))

-- the test, or its negation, as far as 64 bits tell the lighter one
abbrev pub tested : Seat → Bool → Tree → Tree
tested s true a = lighter_negation s a
tested s false a = a

-- `a || b`, `!a && b`, `!a || b` or `a && b`
abbrev pub joined : Seat → Bool → Bool → Tree → Tree → Tree
joined s is_consequent truth a b = logical (giving truth) (tested (left_operand_seat (giving truth) s) (is_turned is_consequent truth) a) b

-- of a conditional, one of whose branches is known
abbrev pub joined_of : Seat → Bool → Bool → Tree → Tree
joined_of s is_consequent truth t = joined s is_consequent truth (part t 0) (branch_at (not is_consequent) t)

-- which is lighter
abbrev pub joins : Seat → Bool → Bool → Tree → Bool
joins s i c t = may_join s i c (part t 0) (branch_at i t) && nat_lt (capped (weight (Expr s) (joined_of s i c t))) (capped (weight (Expr s) t))

abbrev pub branch_by : Seat → Bool → Option Bool → Tree → Option Tree
branch_by s i (Some c) t = if joins s i c t then Some (joined_of s i c t) else None
branch_by s i None t = None

abbrev pub branch_written : Seat → Bool → Tree → Option Tree
branch_written s i t = branch_by s i (known_truth (branch_at i t)) t

abbrev pub either : Option Tree → Option Tree → Option Tree
either (Some a) b = Some a
either None b = b

abbrev pub branches_written : Seat → Tree → Option Tree
branches_written s t = either (branch_written s true t) (branch_written s false t)

-- ---- 47 and 48, where both branches are known

-- the truth of a boolean that may go
abbrev pub boolean_truth : Tree → Option Bool
boolean_truth t = if is_boolean_kind (kind t) then known_truth t else None

-- the first of two truths, where the second is the other one
abbrev pub opposite : Option Bool → Option Bool → Option Bool
opposite (Some true) (Some false) = Some true
opposite (Some false) (Some true) = Some false
opposite _ _ = None

-- the truth of the consequent, where both branches are booleans and the alternate is the other one
abbrev pub told_truth : Tree → Option Bool
told_truth t = if is_plain_part (part t 0) then opposite (boolean_truth (part t 1)) (boolean_truth (part t 2)) else None

-- the truth of `1`, and of `0`
abbrev pub digit_truth : Option ℤ → Option Bool
digit_truth (Some (pos zero)) = Some false
digit_truth (Some (pos (suc zero))) = Some true
digit_truth _ = None

-- that of the consequent, where both branches are these digits
abbrev pub counted_truth : Tree → Option Bool
counted_truth t = opposite (digit_truth (number (part t 1))) (digit_truth (number (part t 2)))

-- the test as a boolean, or its negation, as far as 64 bits tell the lighter one, as the operand of
-- `+`
abbrev pub as_boolean : Bool → Tree → Tree
as_boolean true a = truth_of true a
as_boolean false a = lighter_negation plus_seat a

abbrev pub is_lighter : Seat → Tree → Tree → Bool
is_lighter s w t = nat_lt (capped (weight (Expr s) w)) (capped (weight (Expr s) t))

abbrev pub truth_by : Seat → Option Bool → Tree → Option Tree
truth_by s (Some c) t = if is_lighter s (truth_of c (part t 0)) t then Some (truth_of c (part t 0)) else None
truth_by s None t = None

abbrev pub truth_written : Seat → Tree → Option Tree
truth_written s t = truth_by s (told_truth t) t

abbrev pub number_by : Seat → Option Bool → Tree → Option Tree
number_by s (Some c) t = if is_lighter s (plus (as_boolean c (part t 0))) t then Some (plus (as_boolean c (part t 0))) else None
number_by s None t = None

abbrev pub number_written : Seat → Tree → Option Tree
number_written s t = number_by s (counted_truth t) t

-- the branches come before the digits: where only the truth is asked, `a ? 1 : 0` becomes `a`
abbrev pub conditional_written : Seat → Tree → Option Tree
conditional_written s t = if is_conditional t then either (truth_written s t) (either (branches_written s t) (number_written s t)) else None

-- ---- all

abbrev pub written_by : Shape → Seat → Tree → Option Tree
written_by (shape.UnaryExpression LogicalNot) s t = digit_written s t
written_by (shape.LogicalExpression o) s t = left_written s (logical_operator t) (part t 0) (part t 1)
written_by shape.ConditionalExpression s t = conditional_written s t
written_by h s t = None

-- what is written for an expression in its seat, where a row reads it
abbrev pub written : Seat → Tree → Option Tree
written s t = written_by (shape_of t) s t

-- what the rule makes
abbrev pub Gives : Position → Tree → Tree → Type 0
Gives = BooleanContracts

-- no row makes a lighter expression of it, if its weight fits 64 bits
abbrev pub Rests : Position → Tree → Type 0
Rests p n = weight p n < 2 ^ 64 → (w : Tree) → BooleanContracts p n w → ⊥

-- what is written is what a row says, and lighter
abbrev pub WrittenIsRow : Type 0
WrittenIsRow = (s : Seat) (n w : Tree) → written s n ≡ Some w → BooleanContracts (Expr s) n w

-- and where nothing is written the rule rests
abbrev pub UnwrittenRests : Type 0
UnwrittenRests = (s : Seat) (n : Tree) → written s n ≡ None → Rests (Expr s) n

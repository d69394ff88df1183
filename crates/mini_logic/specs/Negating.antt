-- When the negation of an expression is another form than a `!` before it.
use Rattle.std.specs.Prelude.{ℕ, zero, suc, Bool, true, false, ◌&&◌, ◌||◌, nat_lt, Option, Some, None, is_some, if◌then◌else◌}
use Rattle.mini_model.specs.declared.operator.BinaryOperator.{BinaryOperator}
use Rattle.mini_model.specs.declared.operator.BinaryOperator.TheVariants as binary
use Rattle.mini_model.specs.declared.operator.LogicalOperator.{LogicalOperator}
use Rattle.mini_model.specs.declared.operator.LogicalOperator.TheVariants.{Or, And}
use Rattle.mini_model.specs.declared.place.Position.TheVariants.{Expr}
use Rattle.mini_model.specs.declared.seat.Seat.{Seat}
use Rattle.mini_model.specs.declared.shape.Shape.{Shape}
use Rattle.mini_model.specs.declared.shape.Shape.TheVariants as shape
use Rattle.mini_model.specs.Tree.{Tree, Trees, node, none, ◌▸◌, shape_of, children, negation}
use Rattle.mini_model.specs.Position.{operand_seat}
use Rattle.mini_model.specs.Terms.{is_boolean, is_not_shape, neg, neg_each}
use Rattle.mini_model.specs.Weight.{weight, capped, is_unequal}
use Rattle.mini_node.specs.Children.{names_of, number_of, part}

abbrev pub has_one : Trees → Bool
has_one (t ▸ none) = true
has_one _ = false

-- the operator that a negation turns a logical expression's into, if it does
abbrev pub turned_by : Shape → Option LogicalOperator
turned_by (shape.LogicalExpression And) = Some Or
turned_by (shape.LogicalExpression Or) = Some And
turned_by _ = None

-- the operands negated under the other operator
abbrev pub turned_over : LogicalOperator → Seat → Tree → Tree
turned_over o s t = node (shape.LogicalExpression o) (names_of t) (number_of t) (neg_each (operand_seat o s) (children t))

-- the operator that a negation turns an equality's into
abbrev pub opposite_by : Shape → Option BinaryOperator
opposite_by (shape.BinaryExpression binary.Equality) = Some binary.Inequality
opposite_by (shape.BinaryExpression binary.Inequality) = Some binary.Equality
opposite_by (shape.BinaryExpression binary.StrictEquality) = Some binary.StrictInequality
opposite_by (shape.BinaryExpression binary.StrictInequality) = Some binary.StrictEquality
opposite_by _ = None

-- the node under another shape
abbrev pub reshaped : Shape → Tree → Tree
reshaped h t = node h (names_of t) (number_of t) (children t)

-- what an inequality weighs more as the test of a conditional
abbrev pub unequal_weight : BinaryOperator → Seat → ℕ
unequal_weight o s = if s.cond_test && is_unequal (shape.BinaryExpression o) then 1 else 0

-- `!a`, whose negation is a
abbrev pub is_unwrapped : Seat → Tree → Bool
is_unwrapped s t = is_not_shape (shape_of t) && (has_one (children t) && (s.boolean || is_boolean (part t 0)))

-- the negation is another form than a `!` before the expression
abbrev pub has_own_negation : Seat → Tree → Bool
has_own_negation s e = (is_some (turned_by (shape_of e)) || is_some (opposite_by (shape_of e))) || is_unwrapped s e

-- the first so many are negated
abbrev pub first_negated : (ℕ → Seat) → ℕ → Trees → Trees
first_negated σ zero ts = ts
first_negated σ (suc k) none = none
first_negated σ (suc k) (t ▸ ts) = neg (σ zero) t ▸ first_negated (λ i. σ (suc i)) k ts

-- the lighter negation, as far as 64 bits go
abbrev pub lighter_negation : Seat → Tree → Tree
lighter_negation s a = if nat_lt (capped (weight (Expr s) (negation a))) (capped (weight (Expr s) (neg s a))) then negation a else neg s a

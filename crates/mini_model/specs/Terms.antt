-- Terms of the rewrites: what always gives a boolean, and the negation of an expression.
use Rattle.std.specs.Prelude.{ℕ, zero, suc, Bool, true, false, ◌&&◌, ◌||◌, List, [], ◌∷◌, nat_lt, if◌then◌else◌}
use Rattle.mini_model.specs.declared.operator.BinaryOperator.{BinaryOperator}
use Rattle.mini_model.specs.declared.operator.BinaryOperator.TheVariants as binary
use Rattle.mini_model.specs.declared.operator.LogicalOperator.{LogicalOperator}
use Rattle.mini_model.specs.declared.operator.LogicalOperator.TheVariants.{Or, And, Coalesce}
use Rattle.mini_model.specs.declared.operator.UnaryOperator.TheVariants.{LogicalNot}
use Rattle.mini_model.specs.declared.name.Name.{Name}
use Rattle.mini_model.specs.declared.seat.Seat.{Seat}
use Rattle.mini_model.specs.declared.shape.Shape.{Shape}
use Rattle.mini_model.specs.declared.shape.Shape.TheVariants as shape
use Rattle.mini_model.specs.Tree.{Tree, Trees, node, none, ◌▸◌, negation}
use Rattle.mini_model.specs.Position.{Expr, is_equality, operand_seat}
use Rattle.mini_model.specs.Weight.{weight}

-- which of the children always give a boolean decides whether the node does
abbrev pub boolean_by : Shape → List Bool → Bool
boolean_by (shape.UnaryExpression LogicalNot) bs = true
boolean_by (shape.LogicalExpression o) (a ∷ b ∷ []) = a && b
boolean_by shape.ConditionalExpression (a ∷ b ∷ c ∷ []) = b && c
boolean_by _ bs = false

-- each value of the expression is a boolean (ECMA-262: `!` gives one, and a logical or a
-- conditional expression gives what one of its parts gives)
abbrev mutual
  pub is_boolean : Tree → Bool
  is_boolean (node h xs n ts) = boolean_by h (are_boolean ts)

  pub are_boolean : Trees → List Bool
  are_boolean none = []
  are_boolean (t ▸ ts) = is_boolean t ∷ are_boolean ts

-- `&&` and `||` with both sides negated are turned into each other (De Morgan)
abbrev pub turned : LogicalOperator → LogicalOperator
turned And = Or
turned Or = And
turned Coalesce = Coalesce

abbrev pub turned_seat : Shape → Seat → ℕ → Seat
turned_seat (shape.LogicalExpression o) s i = operand_seat (turned o) s i
turned_seat _ s i = s

-- the operand of a `!` that is negated stands for itself where only its truth is asked, or where it
-- is a boolean
abbrev pub unwrapped : Bool → Tree → Tree → Tree
unwrapped true a n = a
unwrapped false a n = negation n

-- an equality gives the other truth under the other operator of its kind (ECMA-262, "Equality
-- Operators")
abbrev pub opposite : BinaryOperator → BinaryOperator
opposite binary.Equality = binary.Inequality
opposite binary.Inequality = binary.Equality
opposite binary.StrictEquality = binary.StrictInequality
opposite binary.StrictInequality = binary.StrictEquality
opposite o = o

-- an equality is turned so; what compares otherwise has no opposite, since `a < b` and `a >= b` are
-- both false of NaN
abbrev pub turned_equality : Bool → BinaryOperator → List Name → ℕ → Trees → Tree
turned_equality true o xs n ts = node (shape.BinaryExpression (opposite o)) xs n ts
turned_equality false o xs n ts = negation (node (shape.BinaryExpression o) xs n ts)

abbrev pub negated_by : Seat → Shape → List Name → ℕ → Trees → Trees → Tree
negated_by s (shape.LogicalExpression And) xs n ts negated = node (shape.LogicalExpression Or) xs n negated
negated_by s (shape.LogicalExpression Or) xs n ts negated = node (shape.LogicalExpression And) xs n negated
negated_by s (shape.UnaryExpression LogicalNot) xs n (a ▸ none) negated = unwrapped (s.boolean || is_boolean a) a (node (shape.UnaryExpression LogicalNot) xs n (a ▸ none))
negated_by s (shape.BinaryExpression o) xs n ts negated = turned_equality (is_equality o) o xs n ts
negated_by s h xs n ts negated = negation (node h xs n ts)

-- the negation of an expression, written in this seat: `!a` gives a, `&&` and `||` are turned into
-- each other with both sides negated, `==` and `!=`, `===` and `!==` are turned into each other,
-- and any other e gives `!e`
abbrev mutual
  pub neg : Seat → Tree → Tree
  neg s (node h xs n ts) = negated_by s h xs n ts (neg_each (turned_seat h s) ts)

  pub neg_each : (ℕ → Seat) → Trees → Trees
  neg_each σ none = none
  neg_each σ (t ▸ ts) = neg (σ zero) t ▸ neg_each (λ i. σ (suc i)) ts

-- the lighter of the negation and of `!e`, in this seat, and the negation where both weigh the same
abbrev pub not_of : Seat → Tree → Tree
not_of s e = if nat_lt (weight (Expr s) (negation e)) (weight (Expr s) (neg s e)) then negation e else neg s e

abbrev pub is_not_shape : Shape → Bool
is_not_shape (shape.UnaryExpression LogicalNot) = true
is_not_shape _ = false

-- the expression, or its last part, is a `!`
abbrev pub has_negated_result : Tree → Bool
has_negated_result (node h xs n ts) = is_not_shape h

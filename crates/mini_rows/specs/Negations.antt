-- The row of negations that reach into the operand: a shape and what is written in its place, with
-- the JavaScript before and after.
use Rattle.std.specs.Prelude.{◌≡◌, refl, ◌<◌, ℕ, zero, Bool, true, false, not, ◌&&◌, ◌||◌, List, [], Option, Some, None, is_some, codes, nat_lt, if◌then◌else◌}
use Rattle.mini_model.specs.declared.operator.BinaryOperator.{BinaryOperator}
use Rattle.mini_model.specs.declared.operator.BinaryOperator.TheVariants.{LessThan, LessEqualThan, GreaterThan}
use Rattle.mini_model.specs.declared.operator.LogicalOperator.TheVariants.{Or, And}
use Rattle.mini_model.specs.declared.operator.UnaryOperator.{UnaryOperator}
use Rattle.mini_model.specs.declared.operator.UnaryOperator.TheVariants.{Typeof}
use Rattle.mini_model.specs.declared.place.Position.{Position}
use Rattle.mini_model.specs.declared.place.Position.TheVariants.{Expr}
use Rattle.mini_model.specs.declared.seat.Seat.{Seat}
use Rattle.mini_model.specs.declared.shape.Shape.TheVariants as shape
use Rattle.mini_model.specs.Tree.{Tree, Trees, node, none, ◌▸◌, unary, negation, logical}
use Rattle.mini_model.specs.Position.{left_operand_seat, right_operand_seat, branch_seat}
use Rattle.mini_model.specs.Terms.{not_of}
use Rattle.mini_model.specs.Weight.{weight, same_text}
use Rattle.mini_laws.specs.Rows.{SameAt}
use Rattle.mini_node.specs.Children.{part}
use Rattle.mini_node.specs.Kinds.{binary_operator, unary_operator, boolean as boolean_value, string, sequence}
use Rattle.mini_rows.specs.Spellings.{binary, boolean, text}

-- ---- terms

-- `typeof a < "u"`, or with `>`
abbrev pub beside_u : BinaryOperator → Tree → Tree
beside_u o a = binary o (unary Typeof a) (text (codes "u"))

-- `<` and `>` are turned into each other beside that text: `typeof` gives one of eight texts, none
-- of which is `u`, and so either one holds (ECMA-262, "The typeof Operator")
abbrev pub reversed : BinaryOperator → Option BinaryOperator
reversed LessThan = Some GreaterThan
reversed GreaterThan = Some LessThan
reversed _ = None

abbrev pub is_typeof : Option UnaryOperator → Bool
is_typeof (Some Typeof) = true
is_typeof _ = false

abbrev pub is_letter : Option (List ℕ) → Bool
is_letter (Some s) = same_text s (codes "u")
is_letter None = false

abbrev pub reversed_in : Option BinaryOperator → Bool → Option BinaryOperator
reversed_in (Some o) true = reversed o
reversed_in _ _ = None

-- the operator that is written for one of the two, of such a comparison
abbrev pub reverse_of : Tree → Option BinaryOperator
reverse_of t = reversed_in (binary_operator t) (is_typeof (unary_operator (part t 0)) && is_letter (string (part t 1)))

-- such a comparison is turned, and `true` and `false` are; any other expression is negated so
abbrev pub negated_leaf : Option BinaryOperator → Option Bool → Tree → Tree → Tree
negated_leaf (Some o) b t other = binary o (part t 0) (part t 1)
negated_leaf None (Some b) t other = boolean (not b)
negated_leaf None None t other = other

-- a sequence of two parts at least
abbrev pub is_several : Tree → Bool
is_several (node shape.SequenceExpression [] zero (node shape.Listed [] zero (a ▸ (b ▸ ts)) ▸ none)) = true
is_several _ = false

-- `&&` and `||` are turned into each other with both sides negated (De Morgan), however deep, of a
-- sequence the last part is negated, which gives its value (ECMA-262, "Comma Operator"), and what
-- else is written for the negation of a part is given by a function of its seat
abbrev mutual
  pub whole_by : (Seat → Tree → Tree) → Seat → Tree → Tree
  whole_by f s (node (shape.LogicalExpression And) [] zero (a ▸ b ▸ none)) = logical Or (whole_by f (left_operand_seat Or s) a) (whole_by f (right_operand_seat Or s) b)
  whole_by f s (node (shape.LogicalExpression Or) [] zero (a ▸ b ▸ none)) = logical And (whole_by f (left_operand_seat And s) a) (whole_by f (right_operand_seat And s) b)
  whole_by f s (node shape.SequenceExpression [] zero (node shape.Listed [] zero (a ▸ (b ▸ ts)) ▸ none)) = sequence (a ▸ last_by f (branch_seat s) (b ▸ ts))
  whole_by f s t = negated_leaf (reverse_of t) (boolean_value t) t (f s t)

  -- the parts with the last one negated, in its seat
  pub last_by : (Seat → Tree → Tree) → Seat → Trees → Trees
  last_by f s none = none
  last_by f s (a ▸ none) = whole_by f s a ▸ none
  last_by f s (a ▸ (b ▸ ts)) = a ▸ last_by f s (b ▸ ts)

-- the whole negation of an expression, in this seat
abbrev pub whole : Seat → Tree → Tree
whole = whole_by not_of

-- the lightest negation of an expression, in this seat
abbrev pub lightest : Seat → Tree → Tree
lightest s a = if nat_lt (weight (Expr s) (not_of s a)) (weight (Expr s) (whole s a)) then not_of s a else whole s a

abbrev pub is_junction : Tree → Bool
is_junction (node (shape.LogicalExpression And) [] zero (a ▸ b ▸ none)) = true
is_junction (node (shape.LogicalExpression Or) [] zero (a ▸ b ▸ none)) = true
is_junction _ = false

-- it is `&&` or `||`, a sequence, such a comparison, or a literal of a boolean
abbrev pub reaches_in : Tree → Bool
reaches_in t = is_junction t || (is_several t || (is_some (reverse_of t) || is_some (boolean_value t)))

-- ---- the row

-- 23, of what is read inside the operand too: `!(a && typeof x < "u")` becomes
-- `!a || typeof x > "u"`, `!(a, b == c)` becomes `a, b != c`, `!(typeof x < "u")` becomes
-- `typeof x > "u"`, and `!true` becomes `false`
pub record Row23Whole (s : Seat) (n w : Tree) : Type 0 where
  pub e : Tree
  pub inside : reaches_in e ≡ true
  pub shape : n ≡ negation e
  pub written : w ≡ whole s e

-- a row reads n as w at this place
abbrev pub NegationRow : Position → Tree → Tree → Type 0
NegationRow (Expr s) n w = Row23Whole s n w
NegationRow _ n w = ⊥

-- what it writes, where it weighs less
pub record NegationContracts (p : Position) (n w : Tree) : Type 0 where
  pub row : NegationRow p n w
  pub lighter : weight p w < weight p n

-- the whole negation of any expression means what `!` over it does
abbrev pub WholeSame : Type 0
WholeSame = (s : Seat) (a : Tree) → SameAt (Expr s) (negation a) (whole s a)

-- ---- examples

abbrev example_name : Tree
example_name = text (codes "x")

-- `!(typeof a < "u")` is `typeof a > "u"`
comparison_turns : (s : Seat) → whole s (beside_u LessThan example_name) ≡ beside_u GreaterThan example_name
comparison_turns s = refl

-- `!(typeof a <= "u")` stays
other_stays : reaches_in (binary LessEqualThan (unary Typeof example_name) (text (codes "u"))) ≡ false
other_stays = refl

-- `!(a, (b, typeof a < "u"))` is `a, (b, typeof a > "u")`
inner_turns : (s : Seat) (a b : Tree) → whole s (sequence (a ▸ (sequence (b ▸ (beside_u LessThan example_name ▸ none)) ▸ none))) ≡ sequence (a ▸ (sequence (b ▸ (beside_u GreaterThan example_name ▸ none)) ▸ none))
inner_turns s a b = refl

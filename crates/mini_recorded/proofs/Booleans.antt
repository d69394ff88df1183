-- Whether a logical or a conditional expression gives a boolean, by its parts.
use Rattle.std.proofs.Common.{◌≡◌, Bool, true, false, refl, ap, arith}
use Rattle.std.specs.Prelude.{◌&&◌}
use Rattle.std.proofs.lemmas.Bool.{false≢true}
use Rattle.mini_model.specs.Terms.{is_boolean}
use Rattle.mini_model.specs.declared.operator.LogicalOperator.{LogicalOperator}
use Rattle.mini_model.specs.declared.shape.Shape.{Shape}
use Rattle.mini_model.specs.declared.shape.Shape.TheVariants as shape
use Rattle.mini_model.specs.Tree.{Tree, node, none, ◌▸◌, shape_of, children, count}
use Rattle.mini_node.specs.Children.{part}

abbrev is_logical : Shape → Bool
is_logical (shape.LogicalExpression o) = true
is_logical _ = false

abbrev is_choice : Shape → Bool
is_choice shape.ConditionalExpression = true
is_choice _ = false

pub two_boolean : (o : LogicalOperator) (t : Tree) → shape_of t ≡ shape.LogicalExpression o → count (children t) ≡ 2 → is_boolean t ≡ is_boolean (part t 0) && is_boolean (part t 1)
two_boolean o (node (shape.LogicalExpression p) xs n (a ▸ b ▸ none)) s e = refl
two_boolean o (node (shape.LogicalExpression p) xs n none) s e = absurd (omega (arith, e))
two_boolean o (node (shape.LogicalExpression p) xs n (a ▸ none)) s e = absurd (omega (arith, e))
two_boolean o (node (shape.LogicalExpression p) xs n (a ▸ b ▸ c ▸ ts)) s e = absurd (omega (arith, e))
two_boolean o t s e = absurd (false≢true (ap is_logical s))

pub not_two_boolean : (o : LogicalOperator) (t : Tree) → shape_of t ≡ shape.LogicalExpression o → (count (children t) ≡ 2 → ⊥) → is_boolean t ≡ false
not_two_boolean o (node (shape.LogicalExpression p) xs n (a ▸ b ▸ none)) s e = absurd (e refl)
not_two_boolean o (node (shape.LogicalExpression p) xs n ts) s e = refl
not_two_boolean o t s e = absurd (false≢true (ap is_logical s))

pub three_boolean : (t : Tree) → shape_of t ≡ shape.ConditionalExpression → count (children t) ≡ 3 → is_boolean t ≡ is_boolean (part t 1) && is_boolean (part t 2)
three_boolean (node shape.ConditionalExpression xs n (a ▸ b ▸ c ▸ none)) s e = refl
three_boolean (node shape.ConditionalExpression xs n none) s e = absurd (omega (arith, e))
three_boolean (node shape.ConditionalExpression xs n (a ▸ none)) s e = absurd (omega (arith, e))
three_boolean (node shape.ConditionalExpression xs n (a ▸ b ▸ none)) s e = absurd (omega (arith, e))
three_boolean (node shape.ConditionalExpression xs n (a ▸ b ▸ c ▸ d ▸ ts)) s e = absurd (omega (arith, e))
three_boolean t s e = absurd (false≢true (ap is_choice s))

pub not_three_boolean : (t : Tree) → shape_of t ≡ shape.ConditionalExpression → (count (children t) ≡ 3 → ⊥) → is_boolean t ≡ false
not_three_boolean (node shape.ConditionalExpression xs n (a ▸ b ▸ c ▸ none)) s e = absurd (e refl)
not_three_boolean (node shape.ConditionalExpression xs n ts) s e = refl
not_three_boolean t s e = absurd (false≢true (ap is_choice s))

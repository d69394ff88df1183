-- The negation of an expression holds no form that the expression lacks.
use Rattle.std.proofs.Common.{◌≡◌, ℕ, zero, suc, arith, Bool, true, false, List, refl}
use Rattle.std.specs.Prelude.{◌||◌, nat_lt}
use Rattle.mini_model.specs.declared.name.Name.{Name}
use Rattle.mini_model.specs.declared.operator.BinaryOperator.{BinaryOperator}
use Rattle.mini_model.specs.declared.operator.BinaryOperator.TheVariants as binary_operator
use Rattle.mini_model.specs.declared.operator.LogicalOperator.TheVariants.{Or, And}
use Rattle.mini_model.specs.declared.operator.UnaryOperator.TheVariants.{LogicalNot}
use Rattle.mini_model.specs.declared.place.Position.TheVariants.{Expr}
use Rattle.mini_model.specs.declared.seat.Seat.{Seat}
use Rattle.mini_model.specs.declared.shape.Shape.TheVariants as shape
use Rattle.mini_model.specs.Tree.{Tree, Trees, node, none, ◌▸◌, negation}
use Rattle.mini_model.specs.Position.{is_equality}
use Rattle.mini_model.specs.Terms.{turned_seat, opposite, turned_equality, unwrapped, is_boolean, neg, neg_each, not_of}
use Rattle.mini_model.specs.Weight.{weight}
use Rattle.mini_rows.specs.Forms.{Form, form_of_binary}
use Rattle.mini_editions.proofs.Times.{own, times, all_times, choice_lacks}

module _ (f : Form) where
  opposite_form : (o : BinaryOperator) → own f (form_of_binary (opposite o)) ≡ own f (form_of_binary o)
  opposite_form binary_operator.Equality = refl
  opposite_form o = refl

  equality_lacks : (b : Bool) (o : BinaryOperator) (xs : List Name) (n : ℕ) (ts : Trees) → times f (node (shape.BinaryExpression o) xs n ts) ≡ 0 → times f (turned_equality b o xs n ts) ≡ 0
  equality_lacks true o xs n ts z = omega (arith, z, opposite_form o)
  equality_lacks false o xs n ts z = omega (arith, z)

  unwrapped_lacks : (b : Bool) (a t : Tree) → times f a ≡ 0 → times f t ≡ 0 → times f (unwrapped b a t) ≡ 0
  unwrapped_lacks true a t x y = x
  unwrapped_lacks false a t x y = omega (arith, y)

  mutual
    pub neg_lacks : (s : Seat) (t : Tree) → times f t ≡ 0 → times f (neg s t) ≡ 0
    neg_lacks s (node (shape.LogicalExpression And) xs n ts) z = let each = neg_each_lacks (turned_seat (shape.LogicalExpression And) s) ts (omega (arith, z)) in omega (arith, each)
    neg_lacks s (node (shape.LogicalExpression Or) xs n ts) z = let each = neg_each_lacks (turned_seat (shape.LogicalExpression Or) s) ts (omega (arith, z)) in omega (arith, each)
    neg_lacks s (node (shape.UnaryExpression LogicalNot) xs n (a ▸ none)) z = unwrapped_lacks (s.boolean || is_boolean a) a (node (shape.UnaryExpression LogicalNot) xs n (a ▸ none)) (omega (arith, z)) z
    neg_lacks s (node (shape.BinaryExpression o) xs n ts) z = equality_lacks (is_equality o) o xs n ts z
    neg_lacks s (node h xs n ts) z = omega (arith, z)

    neg_each_lacks : (σ : ℕ → Seat) (ts : Trees) → all_times f ts ≡ 0 → all_times f (neg_each σ ts) ≡ 0
    neg_each_lacks σ none z = refl
    neg_each_lacks σ (t ▸ ts) z =
        let a = neg_lacks (σ zero) t (omega (arith, z)) in
        let b = neg_each_lacks (λ i. σ (suc i)) ts (omega (arith, z)) in
        omega (arith, a, b)

  pub not_lacks : (s : Seat) (t : Tree) → times f t ≡ 0 → times f (not_of s t) ≡ 0
  not_lacks s t z = choice_lacks f (nat_lt (weight (Expr s) (negation t)) (weight (Expr s) (neg s t))) (negation t) (neg s t) (omega (arith, z)) (neg_lacks s t z)

-- The negation of an expression that is read again.
use Rattle.mini_again.proofs.ModelWeightAgain.{weight_again}
use Rattle.mini_again.proofs.Names.{if_again}
use Rattle.mini_again.specs.Again.{Renaming, again, all_again, other_number}
use Rattle.mini_laws.specs.Renaming.{rename_name}
use Rattle.mini_model.specs.Position.{is_equality}
use Rattle.mini_model.specs.Terms.{are_boolean, has_negated_result, is_boolean, neg, neg_each, negated_by, not_of, turned_equality, turned_seat, unwrapped}
use Rattle.mini_model.specs.Tree.{Tree, Trees, negation, node, none, ◌▸◌}
use Rattle.mini_model.specs.Weight.{weight}
use Rattle.mini_model.specs.declared.name.Name.{Name}
use Rattle.mini_model.specs.declared.operator.BinaryOperator.{BinaryOperator}
use Rattle.mini_model.specs.declared.operator.LogicalOperator.TheVariants.{And, Or}
use Rattle.mini_model.specs.declared.operator.UnaryOperator.TheVariants.{LogicalNot}
use Rattle.mini_model.specs.declared.place.Position.TheVariants.{Expr}
use Rattle.mini_model.specs.declared.seat.Seat.{Seat}
use Rattle.mini_model.specs.declared.shape.Shape.{Shape}
use Rattle.std.specs.Prelude.{Bool, List, false, map, nat_lt, refl, suc, true, zero, ℕ, ◌||◌, ◌≡◌}
use Rattle.mini_model.specs.declared.shape.Shape.TheVariants as shape

mutual
  pub are_boolean_again : (ρ : Renaming) (ts : Trees) → are_boolean (all_again ρ ts) ≡ are_boolean ts
  are_boolean_again ρ none = refl
  are_boolean_again ρ (t ▸ ts) = simp (is_boolean_again ρ t, are_boolean_again ρ ts)

  pub is_boolean_again : (ρ : Renaming) (t : Tree) → is_boolean (again ρ t) ≡ is_boolean t
  is_boolean_again ρ (node h xs n ts) = simp (are_boolean_again ρ ts)

pub has_negated_result_again : (ρ : Renaming) (t : Tree) → has_negated_result (again ρ t) ≡ has_negated_result t
has_negated_result_again ρ (node h xs n ts) = refl

pub turned_equality_again : (ρ : Renaming) (b : Bool) (o : BinaryOperator) (xs : List Name) (n : ℕ) (ts : Trees) → turned_equality b o (map (rename_name ρ.symbol) xs) (other_number ρ n) (all_again ρ ts) ≡ again ρ (turned_equality b o xs n ts)
turned_equality_again ρ true o xs n ts = refl
turned_equality_again ρ false o xs n ts = refl

pub unwrapped_again : (ρ : Renaming) (b : Bool) (a n : Tree) → unwrapped b (again ρ a) (again ρ n) ≡ again ρ (unwrapped b a n)
unwrapped_again ρ true a n = refl
unwrapped_again ρ false a n = refl

pub negated_by_again : (ρ : Renaming) (s : Seat) (h : Shape) (xs : List Name) (n : ℕ) (ts negated : Trees) → negated_by s h (map (rename_name ρ.symbol) xs) (other_number ρ n) (all_again ρ ts) (all_again ρ negated) ≡ again ρ (negated_by s h xs n ts negated)
negated_by_again ρ s (shape.LogicalExpression And) xs n ts negated = refl
negated_by_again ρ s (shape.LogicalExpression Or) xs n ts negated = refl
negated_by_again ρ s (shape.UnaryExpression LogicalNot) xs n (a ▸ none) negated = simp (is_boolean_again ρ a, unwrapped_again ρ (s.boolean || is_boolean a) a (node (shape.UnaryExpression LogicalNot) xs n (a ▸ none)))
negated_by_again ρ s (shape.BinaryExpression o) xs n ts negated = simp (turned_equality_again ρ (is_equality o) o xs n ts)
negated_by_again ρ s h xs n ts negated = refl

mutual
  pub neg_again : (ρ : Renaming) (s : Seat) (t : Tree) → neg s (again ρ t) ≡ again ρ (neg s t)
  neg_again ρ s (node h xs n ts) = simp (neg_each_again ρ (turned_seat h s) ts, negated_by_again ρ s h xs n ts (neg_each (turned_seat h s) ts))

  pub neg_each_again : (ρ : Renaming) (s : (ℕ → Seat)) (ts : Trees) → neg_each s (all_again ρ ts) ≡ all_again ρ (neg_each s ts)
  neg_each_again ρ σ none = refl
  neg_each_again ρ σ (t ▸ ts) = simp (neg_again ρ (σ zero) t, neg_each_again ρ (λ i. σ (suc i)) ts)

pub not_of_again : (ρ : Renaming) (s : Seat) (e : Tree) → not_of s (again ρ e) ≡ again ρ (not_of s e)
not_of_again ρ s e = simp (if_again ρ (nat_lt (weight (Expr s) (negation e)) (weight (Expr s) (neg s e))) (negation e) (neg s e), weight_again ρ (Expr s) (negation e), neg_again ρ s e, weight_again ρ (Expr s) (neg s e))

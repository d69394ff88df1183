-- The weight of operands that are negated, from one on.
use Rattle.std.proofs.Common.{◌≡◌, refl, ap, sym, subst, ◌∙◌, ℕ, zero, suc, ◌+◌, ◌<◌, ◌≤◌, Bool, true, false, List, [], ◌∷◌, length, arith}
use Rattle.std.specs.Prelude.{slice_index_or, nat_lt, ◌&&◌, ◌||◌, Some, if◌then◌else◌}
use Rattle.std.proofs.lemmas.Option.{none-some}
use borrow.Author.Tests.{ltb-true, ltb-false}
use Rattle.mini_model.specs.declared.operator.BinaryOperator.{BinaryOperator}
use Rattle.mini_model.specs.declared.operator.BinaryOperator.TheVariants as binary
use Rattle.mini_model.specs.declared.operator.LogicalOperator.{LogicalOperator}
use Rattle.mini_model.specs.declared.place.Position.TheVariants.{Expr}
use Rattle.mini_model.specs.declared.seat.Seat.{Seat}
use Rattle.mini_model.specs.declared.shape.Shape.TheVariants as shape
use Rattle.mini_model.specs.Tree.{Tree, Trees, node, none, ◌▸◌, shape_of, children, node_count, node_counts, logical}
use Rattle.mini_model.specs.Position.{operand_seat, left_operand_seat, right_operand_seat}
use Rattle.mini_model.specs.Weight.{weight, weights, parentheses}
use Rattle.mini_model.specs.Terms.{neg, neg_each}
use Rattle.mini_node.specs.Children.{trees_of}
use Rattle.mini_logic.specs.Negating.{turned_over, opposite_by, reshaped, unequal_weight}

abbrev pub negations_from : (ℕ → Seat) → ℕ → Trees → ℕ
negations_from σ at none = 0
negations_from σ at (t ▸ ts) = weight (Expr (σ at)) (neg (σ at) t) + negations_from σ (at + 1) ts

shifted : (σ ρ : ℕ → Seat) (at : ℕ) → ((i : ℕ) → ρ i ≡ σ (i + at)) → (ts : Trees) → negations_from σ at ts ≡ weights (λ i. Expr (ρ i)) (neg_each ρ ts)
shifted σ ρ at h none = refl
shifted σ ρ at h (t ▸ ts) =
    let first : σ at ≡ ρ zero = ap σ (omega arith) ∙ sym (h zero) in
    let next : (i : ℕ) → ρ (suc i) ≡ σ (i + (at + 1)) = λ i. h (suc i) ∙ ap σ (omega arith) in
    omega (arith, ap (λ s. weight (Expr s) (neg s t)) first, shifted σ (λ i. ρ (suc i)) (at + 1) next ts)

pub from_start : (σ : ℕ → Seat) (ts : Trees) → negations_from σ 0 ts ≡ weights (λ i. Expr (σ i)) (neg_each σ ts)
from_start σ ts = shifted σ σ 0 (λ i. ap σ (omega arith)) ts

no_mark : (e t f : Bool) → (if (e && false) || ((t && false) || (f && false)) then 1 else 0) ≤ 0
no_mark true true true = omega arith
no_mark true true false = omega arith
no_mark true false true = omega arith
no_mark true false false = omega arith
no_mark false true true = omega arith
no_mark false true false = omega arith
no_mark false false true = omega arith
no_mark false false false = omega arith

-- a logical expression is its operator, perhaps its parentheses, and its operands
pub weight_turned : (o : LogicalOperator) (s : Seat) (t : Tree) → weight (Expr s) (turned_over o s t) ≡ 4 + parentheses (shape.LogicalExpression o) s + negations_from (operand_seat o s) 0 (children t)
weight_turned o s t = omega (arith, no_mark s.eq_left s.cond_test s.lifted, from_start (operand_seat o s) (children t))

-- so it is over two operands
pub weight_logical : (o : LogicalOperator) (s : Seat) (a b : Tree) → weight (Expr s) (logical o a b) ≡ 4 + parentheses (shape.LogicalExpression o) s + weight (Expr (left_operand_seat o s)) a + weight (Expr (right_operand_seat o s)) b
weight_logical o s a b = omega (arith, no_mark s.eq_left s.cond_test s.lifted)

-- an equality under another operator of its kind weighs the same, but for what an inequality weighs more as a test

test_mark : (e t u f : Bool) → ◌≡◌ {A = ℕ} (if (e && false) || ((t && u) || (f && false)) then 1 else 0) (if t && u then 1 else 0)
test_mark true true true true = refl
test_mark true true true false = refl
test_mark true true false true = refl
test_mark true true false false = refl
test_mark true false u true = refl
test_mark true false u false = refl
test_mark false true true true = refl
test_mark false true true false = refl
test_mark false true false true = refl
test_mark false true false false = refl
test_mark false false u true = refl
test_mark false false u false = refl

abbrev Weighs : Seat → Tree → BinaryOperator → Type 0
Weighs s t o = weight (Expr s) (reshaped (shape.BinaryExpression o) t) ≡ weight (Expr (record s { cond_test = false })) t + unequal_weight o s

pub opposite_weighs : (s : Seat) (t : Tree) (o : BinaryOperator) → opposite_by (shape_of t) ≡ Some o → weight (Expr s) (reshaped (shape.BinaryExpression o) t) ≡ weight (Expr (record s { cond_test = false })) t + unequal_weight o s
opposite_weighs s (node (shape.BinaryExpression binary.Equality) xs n ts) o e = let same : binary.Inequality ≡ o = cc e in subst (Weighs s (node (shape.BinaryExpression binary.Equality) xs n ts)) same (omega (arith, test_mark s.eq_left s.cond_test true s.lifted, test_mark s.eq_left false false s.lifted))
opposite_weighs s (node (shape.BinaryExpression binary.Inequality) xs n ts) o e = let same : binary.Equality ≡ o = cc e in subst (Weighs s (node (shape.BinaryExpression binary.Inequality) xs n ts)) same (omega (arith, test_mark s.eq_left s.cond_test false s.lifted, test_mark s.eq_left false true s.lifted))
opposite_weighs s (node (shape.BinaryExpression binary.StrictEquality) xs n ts) o e = let same : binary.StrictInequality ≡ o = cc e in subst (Weighs s (node (shape.BinaryExpression binary.StrictEquality) xs n ts)) same (omega (arith, test_mark s.eq_left s.cond_test true s.lifted, test_mark s.eq_left false false s.lifted))
opposite_weighs s (node (shape.BinaryExpression binary.StrictInequality) xs n ts) o e = let same : binary.StrictEquality ≡ o = cc e in subst (Weighs s (node (shape.BinaryExpression binary.StrictInequality) xs n ts)) same (omega (arith, test_mark s.eq_left s.cond_test false s.lifted, test_mark s.eq_left false true s.lifted))
opposite_weighs s t o e = absurd (none-some o e)

-- the lighter one of two trees, by weights that are told

pub lighter_first : (t u : Tree) (m n a b : ℕ) → m ≡ a → n ≡ b → m < n → (if nat_lt a b then t else u) ≡ t
lighter_first t u m n a b e f h = go (nat_lt a b) refl
  where
    go : (d : Bool) → nat_lt a b ≡ d → (if d then t else u) ≡ t
    go true k = refl
    go false k = absurd (omega (arith, e, f, h, ltb-false a b k))

pub lighter_second : (t u : Tree) (m n a b : ℕ) → m ≡ a → n ≡ b → n ≤ m → (if nat_lt a b then t else u) ≡ u
lighter_second t u m n a b e f h = go (nat_lt a b) refl
  where
    go : (d : Bool) → nat_lt a b ≡ d → (if d then t else u) ≡ u
    go true k = absurd (omega (arith, e, f, h, ltb-true a b k))
    go false k = refl

-- an item of a list is a smaller tree
pub item_within : (ts : List Tree) (i : ℕ) (d : Tree) → i < length ts → node_count (slice_index_or ts i d) ≤ node_counts (trees_of ts)
item_within [] i d h = absurd (omega arith)
item_within (t ∷ ts) zero d h = omega arith
item_within (t ∷ ts) (suc i) d h = omega (arith, item_within ts i d (omega arith))

-- The negation by the kind of its expression.
use Rattle.std.proofs.Common.{◌≡◌, ◌<◌, ◌≤◌, arith, ℕ, zero, suc, true, false, refl, ap, ◌∙◌}
use Rattle.std.specs.Prelude.{Some, None, nat_eq}
use Rattle.std.proofs.Math.Dec.{eqb-suc-zero, eqb-suc-suc}
use Rattle.std.proofs.lemmas.Bool.{false≢true}
use Rattle.std.proofs.lemmas.Option.{none-some}
use Rattle.mini_model.specs.declared.operator.BinaryOperator.{BinaryOperator}
use Rattle.mini_model.specs.declared.operator.BinaryOperator.TheVariants as binary
use Rattle.mini_model.specs.declared.operator.LogicalOperator.{LogicalOperator}
use Rattle.mini_model.specs.declared.operator.LogicalOperator.TheVariants.{Or, And}
use Rattle.mini_model.specs.declared.operator.UnaryOperator.TheVariants.{LogicalNot}
use Rattle.mini_model.specs.declared.seat.Seat.{Seat}
use Rattle.mini_model.specs.declared.shape.Shape.TheVariants as shape
use Rattle.mini_model.specs.Tree.{Tree, Trees, node, none, ◌▸◌, count, shape_of, child_or_absent, node_count, node_counts, negation}
use Rattle.mini_model.specs.Terms.{unwrapped, neg, neg_each}
use Rattle.mini_node.specs.Children.{part, with_child}
use Rattle.mini_logic.specs.Negating.{has_one, turned_by, turned_over, opposite_by, reshaped, is_unwrapped, first_negated}

pub one_by_count : (ts : Trees) → nat_eq (count ts) 1 ≡ has_one ts
one_by_count none = refl
one_by_count (t ▸ none) = refl
one_by_count (t ▸ u ▸ ts) = eqb-suc-suc (suc (count ts)) 0 ∙ eqb-suc-zero (count ts)

pub neg_turned : (s : Seat) (t : Tree) (o : LogicalOperator) → turned_by (shape_of t) ≡ Some o → neg s t ≡ turned_over o s t
neg_turned s (node (shape.LogicalExpression And) xs n ts) o e = let same : Or ≡ o = cc e in ap (λ q. turned_over q s (node (shape.LogicalExpression And) xs n ts)) same
neg_turned s (node (shape.LogicalExpression Or) xs n ts) o e = let same : And ≡ o = cc e in ap (λ q. turned_over q s (node (shape.LogicalExpression Or) xs n ts)) same
neg_turned s t o e = absurd (none-some o e)

pub neg_unwrapped : (s : Seat) (t : Tree) → is_unwrapped s t ≡ true → neg s t ≡ part t 0
neg_unwrapped s (node (shape.UnaryExpression LogicalNot) xs n (a ▸ none)) e = ap (λ b. unwrapped b a (node (shape.UnaryExpression LogicalNot) xs n (a ▸ none))) e
neg_unwrapped s t e = absurd (false≢true e)

pub neg_opposite : (s : Seat) (t : Tree) (o : BinaryOperator) → opposite_by (shape_of t) ≡ Some o → neg s t ≡ reshaped (shape.BinaryExpression o) t
neg_opposite s (node (shape.BinaryExpression binary.Equality) xs n ts) o e = let same : binary.Inequality ≡ o = cc e in ap (λ q. node (shape.BinaryExpression q) xs n ts) same
neg_opposite s (node (shape.BinaryExpression binary.Inequality) xs n ts) o e = let same : binary.Equality ≡ o = cc e in ap (λ q. node (shape.BinaryExpression q) xs n ts) same
neg_opposite s (node (shape.BinaryExpression binary.StrictEquality) xs n ts) o e = let same : binary.StrictInequality ≡ o = cc e in ap (λ q. node (shape.BinaryExpression q) xs n ts) same
neg_opposite s (node (shape.BinaryExpression binary.StrictInequality) xs n ts) o e = let same : binary.StrictEquality ≡ o = cc e in ap (λ q. node (shape.BinaryExpression q) xs n ts) same
neg_opposite s t o e = absurd (none-some o e)

pub neg_other : (s : Seat) (t : Tree) → turned_by (shape_of t) ≡ None → opposite_by (shape_of t) ≡ None → is_unwrapped s t ≡ false → neg s t ≡ negation t
neg_other s (node (shape.LogicalExpression And) xs n ts) e g f = absurd (cc e)
neg_other s (node (shape.LogicalExpression Or) xs n ts) e g f = absurd (cc e)
neg_other s (node (shape.BinaryExpression binary.Equality) xs n ts) e g f = absurd (cc g)
neg_other s (node (shape.BinaryExpression binary.Inequality) xs n ts) e g f = absurd (cc g)
neg_other s (node (shape.BinaryExpression binary.StrictEquality) xs n ts) e g f = absurd (cc g)
neg_other s (node (shape.BinaryExpression binary.StrictInequality) xs n ts) e g f = absurd (cc g)
neg_other s (node (shape.UnaryExpression LogicalNot) xs n (a ▸ none)) e g f = ap (λ b. unwrapped b a (node (shape.UnaryExpression LogicalNot) xs n (a ▸ none))) f
neg_other s t e g f = refl

-- operands, one after another

pub count_first : (σ : ℕ → Seat) (k : ℕ) (ts : Trees) → count (first_negated σ k ts) ≡ count ts
count_first σ zero ts = refl
count_first σ (suc k) none = refl
count_first σ (suc k) (t ▸ ts) = ap suc (count_first (λ i. σ (suc i)) k ts)

-- the next one is as it was
pub next_first : (σ : ℕ → Seat) (k : ℕ) (ts : Trees) → child_or_absent (first_negated σ k ts) k ≡ child_or_absent ts k
next_first σ zero ts = refl
next_first σ (suc k) none = refl
next_first σ (suc k) (t ▸ ts) = next_first (λ i. σ (suc i)) k ts

pub one_more : (σ : ℕ → Seat) (k : ℕ) (ts : Trees) → k < count ts → with_child (first_negated σ k ts) k (neg (σ k) (child_or_absent ts k)) ≡ first_negated σ (suc k) ts
one_more σ k none h = absurd (omega (arith, h))
one_more σ zero (t ▸ ts) h = refl
one_more σ (suc k) (t ▸ ts) h = ap (λ us. neg (σ zero) t ▸ us) (one_more (λ i. σ (suc i)) k ts (omega (arith, h)))

pub with_twice : (ts : Trees) (k : ℕ) (x y : Tree) → with_child (with_child ts k x) k y ≡ with_child ts k y
with_twice none k x y = refl
with_twice (t ▸ ts) zero x y = refl
with_twice (t ▸ ts) (suc k) x y = ap (λ us. t ▸ us) (with_twice ts k x y)

pub all_negated : (σ : ℕ → Seat) (ts : Trees) → first_negated σ (count ts) ts ≡ neg_each σ ts
all_negated σ none = refl
all_negated σ (t ▸ ts) = ap (λ us. neg (σ zero) t ▸ us) (all_negated (λ i. σ (suc i)) ts)

pub child_within : (ts : Trees) (k : ℕ) → k < count ts → node_count (child_or_absent ts k) ≤ node_counts ts
child_within none k h = absurd (omega (arith, h))
child_within (t ▸ ts) zero h = omega arith
child_within (t ▸ ts) (suc k) h = let rest = child_within ts k (omega (arith, h)) in omega (arith, rest)

-- one more operand is negated where the first so many are
pub negated_next : (σ : ℕ → Seat) (k : ℕ) (ts us : Trees) (x y : Tree) → k < count ts → us ≡ first_negated σ k ts → y ≡ neg (σ k) (child_or_absent us k) → with_child (with_child us k x) k y ≡ first_negated σ (suc k) ts
negated_next σ k ts us x y h e f =
    let next = ap (λ vs. child_or_absent vs k) e ∙ next_first σ k ts in
    with_twice us k x y ∙ ap (with_child us k) (f ∙ ap (neg (σ k)) next) ∙ ap (λ vs. with_child vs k (neg (σ k) (child_or_absent ts k))) e ∙ one_more σ k ts h

pub still_there : (σ : ℕ → Seat) (k : ℕ) (ts us : Trees) → us ≡ first_negated σ k ts → count us ≡ count ts
still_there σ k ts us e = ap count e ∙ count_first σ k ts

pub count_with : (ts : Trees) (k : ℕ) (x : Tree) → count (with_child ts k x) ≡ count ts
count_with none k x = refl
count_with (t ▸ ts) zero x = refl
count_with (t ▸ ts) (suc k) x = ap suc (count_with ts k x)

-- all are negated
pub negated_all : (σ : ℕ → Seat) (k : ℕ) (ts us : Trees) → k ≡ count ts → us ≡ first_negated σ k ts → us ≡ neg_each σ ts
negated_all σ k ts us e f = f ∙ ap (λ i. first_negated σ i ts) e ∙ all_negated σ ts

-- an operand that is not negated yet is smaller than the whole
pub next_within : (σ : ℕ → Seat) (k : ℕ) (ts us : Trees) → k < count ts → us ≡ first_negated σ k ts → node_count (child_or_absent us k) ≤ node_counts ts
next_within σ k ts us h e =
    let same = ap (λ vs. node_count (child_or_absent vs k)) e ∙ ap node_count (next_first σ k ts) in
    omega (arith, same, child_within ts k h)

-- The negation by the kind of its expression.
use Rattle.std.proofs.Common.{◌≡◌, ◌+◌, ◌<◌, ◌≤◌, arith, ℕ, zero, suc, true, false, refl, sym, ap, ◌∙◌, add-one}
use Rattle.std.specs.Prelude.{Some, None, nat_eq}
use Rattle.std.proofs.Math.Dec.{eqb-suc-zero, eqb-suc-suc}
use Rattle.std.proofs.lemmas.Bool.{false≢true}
use Rattle.std.proofs.lemmas.Option.{none-some}
use Rattle.mini_model.specs.declared.operator.BinaryOperator.{BinaryOperator}
use Rattle.mini_model.specs.declared.operator.BinaryOperator.TheVariants as binary
use Rattle.mini_model.specs.declared.operator.LogicalOperator.{LogicalOperator}
use Rattle.mini_model.specs.declared.operator.LogicalOperator.TheVariants.{Or, And}
use Rattle.mini_model.specs.declared.operator.UnaryOperator.TheVariants.{LogicalNot}
use Rattle.mini_model.specs.declared.seat.Seat.{Seat}
use Rattle.mini_model.specs.declared.shape.Shape.TheVariants as shape
use Rattle.mini_model.specs.Paths.{append}
use Rattle.mini_model.specs.Tree.{Tree, Trees, node, none, ◌▸◌, count, shape_of, child_or_absent, negation}
use Rattle.mini_model.specs.Terms.{unwrapped, neg, neg_each}
use Rattle.mini_node.specs.Children.{part, first_children}
use Rattle.mini_node.specs.Walks.{all_first}
use Rattle.mini_recorded.specs.Negating.{has_one, turned_by, turned_over, opposite_by, opposed, is_unwrapped}

pub one_by_count : (ts : Trees) → nat_eq (count ts) 1 ≡ has_one ts
one_by_count none = refl
one_by_count (t ▸ none) = refl
one_by_count (t ▸ u ▸ ts) = eqb-suc-suc (suc (count ts)) 0 ∙ eqb-suc-zero (count ts)

pub neg_turned : (s : Seat) (t : Tree) (o : LogicalOperator) → turned_by (shape_of t) ≡ Some o → neg s t ≡ turned_over o s t
neg_turned s (node (shape.LogicalExpression And) xs n ts) o e = let same : Or ≡ o = cc e in ap (λ q. turned_over q s (node (shape.LogicalExpression And) xs n ts)) same
neg_turned s (node (shape.LogicalExpression Or) xs n ts) o e = let same : And ≡ o = cc e in ap (λ q. turned_over q s (node (shape.LogicalExpression Or) xs n ts)) same
neg_turned s t o e = absurd (none-some o e)

pub neg_unwrapped : (s : Seat) (t : Tree) → is_unwrapped s t ≡ true → neg s t ≡ part t 0
neg_unwrapped s (node (shape.UnaryExpression LogicalNot) xs n (a ▸ none)) e = ap (λ b. unwrapped b a (node (shape.UnaryExpression LogicalNot) xs n (a ▸ none))) e
neg_unwrapped s t e = absurd (false≢true e)

pub neg_opposite : (s : Seat) (t : Tree) (o : BinaryOperator) → opposite_by (shape_of t) ≡ Some o → neg s t ≡ opposed o t
neg_opposite s (node (shape.BinaryExpression binary.Equality) xs n ts) o e = let same : binary.Inequality ≡ o = cc e in ap (λ q. node (shape.BinaryExpression q) xs n ts) same
neg_opposite s (node (shape.BinaryExpression binary.Inequality) xs n ts) o e = let same : binary.Equality ≡ o = cc e in ap (λ q. node (shape.BinaryExpression q) xs n ts) same
neg_opposite s (node (shape.BinaryExpression binary.StrictEquality) xs n ts) o e = let same : binary.StrictInequality ≡ o = cc e in ap (λ q. node (shape.BinaryExpression q) xs n ts) same
neg_opposite s (node (shape.BinaryExpression binary.StrictInequality) xs n ts) o e = let same : binary.StrictEquality ≡ o = cc e in ap (λ q. node (shape.BinaryExpression q) xs n ts) same
neg_opposite s t o e = absurd (none-some o e)

pub neg_other : (s : Seat) (t : Tree) → turned_by (shape_of t) ≡ None → opposite_by (shape_of t) ≡ None → is_unwrapped s t ≡ false → neg s t ≡ negation t
neg_other s (node (shape.LogicalExpression And) xs n ts) e g f = absurd (cc e)
neg_other s (node (shape.LogicalExpression Or) xs n ts) e g f = absurd (cc e)
neg_other s (node (shape.BinaryExpression binary.Equality) xs n ts) e g f = absurd (cc g)
neg_other s (node (shape.BinaryExpression binary.Inequality) xs n ts) e g f = absurd (cc g)
neg_other s (node (shape.BinaryExpression binary.StrictEquality) xs n ts) e g f = absurd (cc g)
neg_other s (node (shape.BinaryExpression binary.StrictInequality) xs n ts) e g f = absurd (cc g)
neg_other s (node (shape.UnaryExpression LogicalNot) xs n (a ▸ none)) e g f = ap (λ b. unwrapped b a (node (shape.UnaryExpression LogicalNot) xs n (a ▸ none))) f
neg_other s t e g f = refl

-- ---- operands, one after another

pub none_first : (σ : ℕ → Seat) (ts : Trees) → none ≡ neg_each σ (first_children 0 ts)
none_first σ none = refl
none_first σ (t ▸ ts) = refl

one_more : (σ : ℕ → Seat) (k : ℕ) (ts : Trees) → k < count ts → append (neg_each σ (first_children k ts)) (neg (σ k) (child_or_absent ts k) ▸ none) ≡ neg_each σ (first_children (suc k) ts)
one_more σ k none h = absurd (omega (arith, h))
one_more σ zero (t ▸ none) h = refl
one_more σ zero (t ▸ (u ▸ ts)) h = refl
one_more σ (suc k) (t ▸ ts) h = ap (λ us. neg (σ zero) t ▸ us) (one_more (λ i. σ (suc i)) k ts (omega (arith, h)))

pub negated_next : (σ : ℕ → Seat) (k : ℕ) (ts us vs : Trees) (s : Seat) (c x : Tree) → k < count ts → us ≡ neg_each σ (first_children k ts) → s ≡ σ k → c ≡ child_or_absent ts k → x ≡ neg s c → vs ≡ append us (x ▸ none) → vs ≡ neg_each σ (first_children (k + 1) ts)
negated_next σ k ts us vs s c x h e d f g i =
    i ∙ ap (λ w. append w (x ▸ none)) e ∙ ap (λ w. append (neg_each σ (first_children k ts)) (w ▸ none)) (g ∙ ap (λ q. neg q c) d ∙ ap (neg (σ k)) f) ∙ one_more σ k ts h ∙ ap (λ m. neg_each σ (first_children m ts)) (sym (add-one k))

pub negated_all : (σ : ℕ → Seat) (k : ℕ) (ts us : Trees) → count ts ≤ k → us ≡ neg_each σ (first_children k ts) → us ≡ neg_each σ ts
negated_all σ k ts us h e = e ∙ ap (neg_each σ) (all_first ts k h)

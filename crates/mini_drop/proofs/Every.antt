-- A walk over children that asks a test of each.
use Rattle.std.proofs.Common.{◌≡◌, ℕ, suc, ◌+◌, ◌<◌, ◌≤◌, Bool, true, false, refl, sym, ap, ◌∙◌, add-one}
use Rattle.std.specs.Prelude.{◌&&◌}
use Rattle.mini_model.specs.Tree.{Tree, Trees, none, ◌▸◌, count, child_or_absent}
use Rattle.mini_node.specs.Children.{rest_children}
use Rattle.mini_node.specs.Walks.{next_child, no_rest}

-- F is f of each child, which stands at an index
pub record Every (f : ℕ → Tree → Bool) (F : ℕ → Trees → Bool) : Type 0 where
  pub at_none : (i : ℕ) → F i none ≡ true
  pub at_more : (i : ℕ) (t : Tree) (ts : Trees) → F i (t ▸ ts) ≡ (f i t && F (suc i) ts)

-- where a walk that began at a place stands
abbrev pub Until : (ℕ → Trees → Bool) → Trees → ℕ → ℕ → Bool → Type 0
Until F ts from i a = (a && F i (rest_children i ts)) ≡ F from (rest_children from ts)

step : (a b c : Bool) → ((a && b) && c) ≡ (a && (b && c))
step true b c = refl
step false b c = refl

and_true : (b : Bool) → b ≡ (b && true)
and_true true = refl
and_true false = refl

pub next : (f : ℕ → Tree → Bool) (F : ℕ → Trees → Bool) → Every f F → (ts : Trees) (from i : ℕ) (a b : Bool) (t : Tree) → i < count ts → t ≡ child_or_absent ts i → b ≡ f i t → Until F ts from i a → Until F ts from (i + 1) (a && b)
next f F w ts from i a b t h e g u =
    ap (λ k. (a && b) && F k (rest_children k ts)) (add-one i)
    ∙ step a b (F (suc i) (rest_children (suc i) ts))
    ∙ ap (λ c. a && (c && F (suc i) (rest_children (suc i) ts))) (g ∙ ap (f i) e)
    ∙ ap (λ c. a && c) (sym (w.at_more i (child_or_absent ts i) (rest_children (suc i) ts)))
    ∙ ap (λ us. a && F i us) (sym (next_child ts i h))
    ∙ u

pub finished : (f : ℕ → Tree → Bool) (F : ℕ → Trees → Bool) → Every f F → (ts : Trees) (from i : ℕ) (a : Bool) → count ts ≤ i → Until F ts from i a → a ≡ F from (rest_children from ts)
finished f F w ts from i a h u = and_true a ∙ ap (λ c. a && c) (sym (ap (F i) (no_rest ts i h) ∙ w.at_none i)) ∙ u

-- A loop that gathers what stands in the children of a node, by their indices.
use Rattle.std.specs.Prelude.{ℕ, zero, suc, ◌+◌, ◌≡◌, ◌≤◌, ◌<◌, refl, List, [], ◌++◌}
use Rattle.std.proofs.Common.{ap, ◌∙◌, arith, sym, append_assoc, add-one}
use Rattle.std.proofs.lemmas.List.{append-nil}
use Rattle.mini_model.specs.Tree.{Tree, Trees, none, ◌▸◌, count, child_or_absent}
use Rattle.mini_node.specs.Children.{rest_children}

-- from an index on, F gathers what f gives of each tree, in order
pub record Gathers {A : Type 0} (f : ℕ → Tree → List A) (F : ℕ → Trees → List A) : Type 0 where
  pub at_none : (i : ℕ) → F i none ≡ []
  pub at_more : (i : ℕ) (t : Tree) (ts : Trees) → F i (t ▸ ts) ≡ f i t ++ F (suc i) ts

pub all_rest : (ts : Trees) → rest_children 0 ts ≡ ts
all_rest none = refl
all_rest (t ▸ ts) = refl

next_rest : (ts : Trees) (i : ℕ) → i < count ts → rest_children i ts ≡ child_or_absent ts i ▸ rest_children (suc i) ts
next_rest none i h = absurd (omega arith)
next_rest (t ▸ none) zero h = refl
next_rest (t ▸ (u ▸ ts)) zero h = refl
next_rest (t ▸ ts) (suc i) h = next_rest ts i (omega arith)

no_rest : (ts : Trees) (i : ℕ) → count ts ≤ i → rest_children i ts ≡ none
no_rest none i h = refl
no_rest (t ▸ ts) zero h = absurd (omega arith)
no_rest (t ▸ ts) (suc i) h = no_rest ts i (omega arith)

module _ {A : Type 0} (f : ℕ → Tree → List A) (F : ℕ → Trees → List A) (g : Gathers f F) (ts : Trees) where
  pub turn : (i : ℕ) (now after all : List A) → i < count ts → after ≡ now ++ f i (child_or_absent ts i) → now ++ F i (rest_children i ts) ≡ all → after ++ F (i + 1) (rest_children (i + 1) ts) ≡ all
  turn i now after all h e p =
      ap (λ k. after ++ F k (rest_children k ts)) (add-one i)
      ∙ ap (λ r. r ++ F (suc i) (rest_children (suc i) ts)) e
      ∙ append_assoc now (f i (child_or_absent ts i)) (F (suc i) (rest_children (suc i) ts))
      ∙ ap (λ r. now ++ r) (sym (ap (F i) (next_rest ts i h) ∙ g.at_more i (child_or_absent ts i) (rest_children (suc i) ts)))
      ∙ p

  pub ended : (i : ℕ) (now all : List A) → count ts ≤ i → now ++ F i (rest_children i ts) ≡ all → now ≡ all
  ended i now all h p = sym (append-nil now) ∙ ap (λ r. now ++ r) (sym (ap (F i) (no_rest ts i h) ∙ g.at_none i)) ∙ p

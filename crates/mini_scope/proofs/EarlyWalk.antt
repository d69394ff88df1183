-- Walks over the children of a node at a path.
use Rattle.std.specs.Prelude.{ℕ, zero, suc, ◌+◌, ◌≡◌, ◌≤◌, ◌<◌, refl, false, nat_lt, List, [], ◌∷◌, ◌++◌}
use Rattle.std.proofs.Common.{ap, ◌∙◌, arith, sym, append_assoc, add-one}
use Rattle.std.proofs.lemmas.List.{append-nil}
use Rattle.mini_model.specs.Tree.{Tree, Trees, none, ◌▸◌, count, child_or_absent, node_count, node_counts}
use Rattle.mini_node.specs.Children.{rest_children}

pub next_child : (ts : Trees) (i : ℕ) → i < count ts → rest_children i ts ≡ child_or_absent ts i ▸ rest_children (suc i) ts
next_child none i h = absurd (omega arith)
next_child (t ▸ none) zero h = refl
next_child (t ▸ (u ▸ ts)) zero h = refl
next_child (t ▸ ts) (suc i) h = next_child ts i (omega arith)

pub no_rest : (ts : Trees) (i : ℕ) → count ts ≤ i → rest_children i ts ≡ none
no_rest none i h = refl
no_rest (t ▸ ts) zero h = absurd (omega arith)
no_rest (t ▸ ts) (suc i) h = no_rest ts i (omega arith)

pub from_first : (ts : Trees) → rest_children 0 ts ≡ ts
from_first none = refl
from_first (t ▸ ts) = refl

pub child_smaller : (ts : Trees) (i : ℕ) → i < count ts → node_count (child_or_absent ts i) ≤ node_counts ts
child_smaller none i h = absurd (omega arith)
child_smaller (t ▸ ts) zero h = omega arith
child_smaller (t ▸ ts) (suc i) h = omega (arith, child_smaller ts i (omega arith))

-- F gathers what f gives at each and its index, in order
pub record Gathers {A : Type 0} (f : ℕ → Tree → List A) (F : ℕ → Trees → List A) : Type 0 where
  pub at_none : (i : ℕ) → F i none ≡ []
  pub at_more : (i : ℕ) (t : Tree) (ts : Trees) → F i (t ▸ ts) ≡ f i t ++ F (suc i) ts

pub turn : {A : Type 0} (f : ℕ → Tree → List A) (F : ℕ → Trees → List A) → Gathers f F → (ts : Trees) (i : ℕ) (now after all : List A) → i < count ts → after ≡ now ++ f i (child_or_absent ts i) → now ++ F i (rest_children i ts) ≡ all → after ++ F (i + 1) (rest_children (i + 1) ts) ≡ all
turn f F g ts i now after all h p e =
    ap (λ k. after ++ F k (rest_children k ts)) (add-one i) ∙ ap (λ r. r ++ F (suc i) (rest_children (suc i) ts)) p
    ∙ append_assoc now (f i (child_or_absent ts i)) (F (suc i) (rest_children (suc i) ts))
    ∙ ap (λ r. now ++ r) (sym (ap (F i) (next_child ts i h) ∙ g.at_more i (child_or_absent ts i) (rest_children (suc i) ts))) ∙ e

pub finished : {A : Type 0} (f : ℕ → Tree → List A) (F : ℕ → Trees → List A) → Gathers f F → (ts : Trees) (i : ℕ) (now all : List A) → count ts ≤ i → now ++ F i (rest_children i ts) ≡ all → now ≡ all
finished f F g ts i now all h e = sym (append-nil now) ∙ ap (λ r. now ++ r) (sym (ap (F i) (no_rest ts i h) ∙ g.at_none i)) ∙ e

-- a child that is not there
pub missing : (ts : Trees) (i : ℕ) → count ts ≤ i → child_or_absent ts i ≡ child_or_absent none 0
missing none i h = refl
missing (t ▸ ts) zero h = absurd (omega arith)
missing (t ▸ ts) (suc i) h = missing ts i (omega arith)

but_last : List ℕ → List ℕ
but_last [] = []
but_last (x ∷ []) = []
but_last (x ∷ (y ∷ ys)) = x ∷ but_last (y ∷ ys)

but_last_of : (xs : List ℕ) (i : ℕ) → but_last (xs ++ i ∷ []) ≡ xs
unfolding but_last
but_last_of [] i = refl
but_last_of (x ∷ []) i = refl
but_last_of (x ∷ (y ∷ ys)) i = ap (λ r. x ∷ r) (but_last_of (y ∷ ys) i)

pub without_last : (xs ys : List ℕ) (i j : ℕ) → xs ++ i ∷ [] ≡ ys ++ j ∷ [] → xs ≡ ys
without_last xs ys i j e = sym (but_last_of xs i) ∙ ap but_last e ∙ but_last_of ys j

pub lower : (a b : ℕ) → b ≤ a → nat_lt a b ≡ false
lower a b h = grind (arith, h)

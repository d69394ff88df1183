-- Laws of a walk over the children of a node, one after another: what is done stands before a
-- place, what is left from there on.
use Rattle.std.specs.Prelude.{ℕ, zero, suc, ◌+◌, ◌≡◌, ◌≤◌, ◌<◌, refl, List, [], ◌++◌}
use Rattle.std.proofs.Common.{ap, ◌∙◌, arith, sym, append_assoc, add-one}
use Rattle.std.proofs.lemmas.List.{append-nil}
use Rattle.mini_model.specs.Tree.{Tree, Trees, none, ◌▸◌, count, absent, child_or_absent, node_counts}
use Rattle.mini_model.specs.Paths.{append}
use Rattle.mini_node.specs.Children.{with_child, first_children, rest_children}

pub from_first : (ts : Trees) → rest_children 0 ts ≡ ts
from_first none = refl
from_first (t ▸ ts) = refl

pub next_child : (ts : Trees) (i : ℕ) → i < count ts → rest_children i ts ≡ child_or_absent ts i ▸ rest_children (suc i) ts
next_child none i h = absurd (omega (arith, h))
next_child (t ▸ none) zero h = refl
next_child (t ▸ (u ▸ ts)) zero h = refl
next_child (t ▸ ts) (suc i) h = next_child ts i (omega (arith, h))

pub no_rest : (ts : Trees) (i : ℕ) → count ts ≤ i → rest_children i ts ≡ none
no_rest none i h = refl
no_rest (t ▸ ts) zero h = absurd (omega (arith, h))
no_rest (t ▸ ts) (suc i) h = no_rest ts i (omega (arith, h))

pub all_first : (ts : Trees) (i : ℕ) → count ts ≤ i → first_children i ts ≡ ts
all_first none i h = refl
all_first (t ▸ ts) zero h = absurd (omega (arith, h))
all_first (t ▸ ts) (suc i) h = ap (λ us. t ▸ us) (all_first ts i (omega (arith, h)))

pub no_child : (ts : Trees) (i : ℕ) → count ts ≤ i → child_or_absent ts i ≡ absent
no_child none i h = refl
no_child (t ▸ ts) zero h = absurd (omega (arith, h))
no_child (t ▸ ts) (suc i) h = no_child ts i (omega (arith, h))

pub rest_smaller : (ts : Trees) (i : ℕ) → node_counts (rest_children i ts) ≤ node_counts ts
rest_smaller none i = omega arith
rest_smaller (t ▸ ts) zero = omega arith
rest_smaller (t ▸ ts) (suc i) = let rest = rest_smaller ts i in omega (arith, rest)

-- another child at a place

pub count_with : (ts : Trees) (i : ℕ) (x : Tree) → count (with_child ts i x) ≡ count ts
count_with none i x = refl
count_with (t ▸ ts) zero x = refl
count_with (t ▸ ts) (suc i) x = ap suc (count_with ts i x)

pub child_with : (ts : Trees) (i : ℕ) (x : Tree) → i < count ts → child_or_absent (with_child ts i x) i ≡ x
child_with none i x h = absurd (omega (arith, h))
child_with (t ▸ ts) zero x h = refl
child_with (t ▸ ts) (suc i) x h = child_with ts i x (omega (arith, h))

pub with_same : (ts : Trees) (i : ℕ) → with_child ts i (child_or_absent ts i) ≡ ts
with_same none i = refl
with_same (t ▸ ts) zero = refl
with_same (t ▸ ts) (suc i) = ap (λ us. t ▸ us) (with_same ts i)

pub first_with : (ts : Trees) (i : ℕ) (x : Tree) → i < count ts → first_children (suc i) (with_child ts i x) ≡ append (first_children i ts) (x ▸ none)
first_with none i x h = absurd (omega (arith, h))
first_with (t ▸ none) zero x h = refl
first_with (t ▸ (u ▸ ts)) zero x h = refl
first_with (t ▸ ts) (suc i) x h = ap (λ us. t ▸ us) (first_with ts i x (omega (arith, h)))

pub rest_with : (ts : Trees) (i : ℕ) (x : Tree) → rest_children (suc i) (with_child ts i x) ≡ rest_children (suc i) ts
rest_with none i x = refl
rest_with (t ▸ ts) zero x = refl
rest_with (t ▸ ts) (suc i) x = rest_with ts i x

pub append_none : (ts : Trees) → append ts none ≡ ts
append_none none = refl
append_none (t ▸ ts) = ap (λ us. t ▸ us) (append_none ts)

pub append_one : (ts : Trees) (x : Tree) (us : Trees) → append (append ts (x ▸ none)) us ≡ append ts (x ▸ us)
append_one none x us = refl
append_one (t ▸ ts) x us = ap (λ vs. t ▸ vs) (append_one ts x us)

-- a loop that gathers: F gathers what f gives of each tree and its place, in order

pub record Gathers {A : Type 0} (f : ℕ → Tree → List A) (F : ℕ → Trees → List A) : Type 0 where
  pub at_none : (i : ℕ) → F i none ≡ []
  pub at_more : (i : ℕ) (t : Tree) (ts : Trees) → F i (t ▸ ts) ≡ f i t ++ F (suc i) ts

-- one turn
pub turn : {A : Type 0} (f : ℕ → Tree → List A) (F : ℕ → Trees → List A) → Gathers f F → (ts : Trees) (i : ℕ) (now after all : List A) → i < count ts → after ≡ now ++ f i (child_or_absent ts i) → now ++ F i (rest_children i ts) ≡ all → after ++ F (i + 1) (rest_children (i + 1) ts) ≡ all
turn f F g ts i now after all h p e =
    ap (λ k. after ++ F k (rest_children k ts)) (add-one i) ∙ ap (λ r. r ++ F (suc i) (rest_children (suc i) ts)) p
    ∙ append_assoc now (f i (child_or_absent ts i)) (F (suc i) (rest_children (suc i) ts))
    ∙ ap (λ r. now ++ r) (sym (ap (F i) (next_child ts i h) ∙ g.at_more i (child_or_absent ts i) (rest_children (suc i) ts))) ∙ e

-- after the last turn
pub finished : {A : Type 0} (f : ℕ → Tree → List A) (F : ℕ → Trees → List A) → Gathers f F → (ts : Trees) (i : ℕ) (now all : List A) → count ts ≤ i → now ++ F i (rest_children i ts) ≡ all → now ≡ all
finished f F g ts i now all h e = sym (append-nil now) ∙ ap (λ r. now ++ r) (sym (ap (F i) (no_rest ts i h) ∙ g.at_none i)) ∙ e

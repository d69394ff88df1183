-- A walk over the children of a node, which adds to a state what each of them gives.
use Rattle.std.specs.Prelude.{ℕ, suc, ◌+◌, ◌≡◌, ◌≤◌, ◌<◌, List, [], ◌∷◌, ◌++◌, length, map, slice_index_or, take}
use Rattle.std.proofs.Common.{ap, ◌∙◌, sym, subst, add-one}
use Rattle.std.proofs.lemmas.List.{map-append, take_all, take_more}
use Rattle.mini_model.specs.Tree.{Tree, Trees, none, ◌▸◌, count, child_or_absent}
use Rattle.mini_node.specs.Children.{rest_children}
use Rattle.mini_node.specs.Walks.{next_child, no_rest, from_first}

-- what is added by a list, and then by another, is added by both
pub record Adds {A S : Type 0} (R : List A → S → S → Type 0) : Type 0 where
  pub nothing : (s : S) → R [] s s
  pub both : (xs ys : List A) (a b c : S) → R xs a b → R ys b c → R (xs ++ ys) a c

-- F gathers what f gives of each tree with those after it, in order
pub record Gathers {A : Type 0} (f F : ℕ → Trees → List A) : Type 0 where
  pub at_none : (i : ℕ) → F i none ≡ []
  pub at_more : (i : ℕ) (t : Tree) (ts : Trees) → F i (t ▸ ts) ≡ f i (t ▸ ts) ++ F (suc i) ts

-- where a walk stands: whatever is added by what is left is added by all
abbrev pub Until : {A S : Type 0} → (List A → S → S → Type 0) → (ℕ → Trees → List A) → Trees → ℕ → S → S → Type 0
Until {S = S} R F ts i start now = (end : S) → R (F i (rest_children i ts)) now end → R (F 0 ts) start end

pub begins : {A S : Type 0} (R : List A → S → S → Type 0) (F : ℕ → Trees → List A) (ts : Trees) (s : S) → Until R F ts 0 s s
begins R F ts s = λ end r. subst (λ us. R (F 0 us) s end) (from_first ts) r

pub split : {A : Type 0} (f F : ℕ → Trees → List A) → Gathers f F → (ts : Trees) (i : ℕ) (t : Tree) → i < count ts → t ≡ child_or_absent ts i → f i (t ▸ rest_children (suc i) ts) ++ F (i + 1) (rest_children (i + 1) ts) ≡ F i (rest_children i ts)
split f F g ts i t h e =
    ap (λ k. f i (t ▸ rest_children (suc i) ts) ++ F k (rest_children k ts)) (add-one i)
    ∙ sym (g.at_more i t (rest_children (suc i) ts))
    ∙ ap (λ u. F i (u ▸ rest_children (suc i) ts)) e
    ∙ ap (F i) (sym (next_child ts i h))

pub turn : {A S : Type 0} (R : List A → S → S → Type 0) (f F : ℕ → Trees → List A) → Adds R → Gathers f F → (ts : Trees) (i : ℕ) (t : Tree) (start now next : S) → i < count ts → t ≡ child_or_absent ts i → R (f i (t ▸ rest_children (suc i) ts)) now next → Until R F ts i start now → Until R F ts (i + 1) start next
turn R f F a g ts i t start now next h e r u =
    λ end q. u end (subst (λ xs. R xs now end) (split f F g ts i t h e) (a.both (f i (t ▸ rest_children (suc i) ts)) (F (i + 1) (rest_children (i + 1) ts)) now next end r q))

pub finished : {A S : Type 0} (R : List A → S → S → Type 0) (f F : ℕ → Trees → List A) → Adds R → Gathers f F → (ts : Trees) (i : ℕ) (start now : S) → count ts ≤ i → Until R F ts i start now → R (F 0 ts) start now
finished R f F a g ts i start now h u = u now (subst (λ xs. R xs now now) (sym (ap (F i) (no_rest ts i h) ∙ g.at_none i)) (a.nothing now))

-- the same over the items of a slice, of each of which something is added
pub items_begin : {A B S : Type 0} (R : List B → S → S → Type 0) (f : A → B) → Adds R → (xs : List A) (s : S) → R (map f (take 0 xs)) s s
items_begin R f a xs s = a.nothing s

pub items_turn : {A B S : Type 0} (R : List B → S → S → Type 0) (f : A → B) → Adds R → (xs : List A) (i : ℕ) (x : A) (start now next : S) → i < length xs → x ≡ slice_index_or xs i x → R (map f (take i xs)) start now → R (f x ∷ []) now next → R (map f (take (i + 1) xs)) start next
items_turn R f a xs i x start now next h e r q =
    subst (λ ys. R ys start next) (sym (ap (map f) (take_more xs i x h ∙ ap (λ y. take i xs ++ y ∷ []) (sym e)) ∙ map-append f (take i xs) (x ∷ [])))
    (a.both (map f (take i xs)) (f x ∷ []) start now next r q)

pub items_end : {A B S : Type 0} (R : List B → S → S → Type 0) (f : A → B) (xs : List A) (i : ℕ) (start now : S) → length xs ≤ i → R (map f (take i xs)) start now → R (map f xs) start now
items_end R f xs i start now h r = subst (λ ys. R (map f ys) start now) (take_all i xs h) r

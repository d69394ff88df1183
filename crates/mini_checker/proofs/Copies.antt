-- A list of children that is copied one by one.
use Rattle.std.proofs.Common.{◌≡◌, ℕ, suc, ◌+◌, ◌<◌, ◌≤◌, List, [], ◌∷◌, ◌++◌, length, take, slice_index_or, refl, sym, ap, ◌∙◌, add-one}
use Rattle.std.proofs.lemmas.List.{take_more}
use Rattle.mini_model.specs.Tree.{Tree, Trees, none, ◌▸◌, count, child_or_absent}
use Rattle.mini_model.specs.Paths.{append}
use Rattle.mini_node.specs.Children.{rest_children}
use Rattle.mini_node.specs.Walks.{next_child, no_rest}

one_more : (us : Trees) (t : Tree) (ts : Trees) → append (append us (t ▸ none)) ts ≡ append us (t ▸ ts)
one_more none t ts = refl
one_more (u ▸ us) t ts = ap (λ vs. u ▸ vs) (one_more us t ts)

nothing_after : (us : Trees) → append us none ≡ us
nothing_after none = refl
nothing_after (u ▸ us) = ap (λ vs. u ▸ vs) (nothing_after us)

pub copy_next : (ts us vs : Trees) (i : ℕ) → i < count ts → vs ≡ append us (child_or_absent ts i ▸ none) → append us (rest_children i ts) ≡ ts → append vs (rest_children (i + 1) ts) ≡ ts
copy_next ts us vs i h e d =
    ap (λ k. append vs (rest_children k ts)) (add-one i) ∙ ap (λ ws. append ws (rest_children (suc i) ts)) e ∙ one_more us (child_or_absent ts i) (rest_children (suc i) ts) ∙ ap (append us) (sym (next_child ts i h)) ∙ d

pub copy_ends : (ts us : Trees) (i : ℕ) → count ts ≤ i → append us (rest_children i ts) ≡ ts → us ≡ ts
copy_ends ts us i h d = sym (nothing_after us) ∙ ap (append us) (sym (no_rest ts i h)) ∙ d

pub item_turn : {A : Type 0} (xs : List A) (i : ℕ) (x y : A) (old new : List A) → i < length xs → x ≡ slice_index_or xs i x → y ≡ x → old ≡ take i xs → new ≡ old ++ y ∷ [] → new ≡ take (i + 1) xs
item_turn xs i x y old new h e f p q = q ∙ ap (λ z. old ++ z ∷ []) (f ∙ e) ∙ ap (λ r. r ++ slice_index_or xs i x ∷ []) p ∙ sym (take_more xs i x h)

-- A list that is copied item by item.
use Rattle.std.specs.Prelude.{ℕ, ◌+◌, ◌≡◌, ◌<◌, List, [], ◌∷◌, ◌++◌, length, take, slice_index_or}
use Rattle.std.proofs.Common.{ap, ◌∙◌, sym}
use Rattle.std.proofs.lemmas.List.{take_more}

pub number_turn : (xs : List ℕ) (i : ℕ) (old new : List ℕ) → i < length xs → old ≡ take i xs → new ≡ old ++ slice_index_or xs i 0 ∷ [] → new ≡ take (i + 1) xs
number_turn xs i old new h p q = q ∙ ap (λ r. r ++ slice_index_or xs i 0 ∷ []) p ∙ sym (take_more xs i 0 h)

pub item_turn : {A : Type 0} (xs : List A) (i : ℕ) (x y : A) (old new : List A) → i < length xs → x ≡ slice_index_or xs i x → y ≡ x → old ≡ take i xs → new ≡ old ++ y ∷ [] → new ≡ take (i + 1) xs
item_turn xs i x y old new h e f p q = q ∙ ap (λ z. old ++ z ∷ []) (f ∙ e) ∙ ap (λ r. r ++ slice_index_or xs i x ∷ []) p ∙ sym (take_more xs i x h)

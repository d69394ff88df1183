-- Lists of items.
use Rattle.std.proofs.Common.{◌≡◌, ◌≤◌, length, [], ◌∷◌, List, Bool, false, refl, arith}
use Rattle.serde_json.specs.View.{items_view}
use Rattle.serde_json.specs.declared.value.Value.{Value}
use Rattle.mini_accept.specs.Fields.{no_item, item_count}
use Rattle.mini_accept.specs.Standing.{is_head_by}

pub no_item_some : (xs : List Value) → 1 ≤ length xs → no_item (items_view xs) ≡ false
no_item_some [] h = absurd (omega arith)
no_item_some (x ∷ xs) h = refl

pub is_head_by_many : (b : Bool) (xs : List Value) → 2 ≤ length xs → is_head_by b (items_view xs) ≡ false
is_head_by_many b [] h = absurd (omega arith)
is_head_by_many b (x ∷ []) h = absurd (omega arith)
is_head_by_many b (x ∷ y ∷ xs) h = refl

pub item_count_length : (xs : List Value) → item_count (items_view xs) ≡ length xs
item_count_length [] = refl
item_count_length (x ∷ xs) = grind (arith, item_count_length xs)

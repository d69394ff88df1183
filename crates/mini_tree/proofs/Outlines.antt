-- What the weight of a node reads of its children, of the trees of its list.
use Rattle.std.proofs.Common.{◌≡◌, refl, ap, ℕ, zero, suc, ◌*◌, ◌-◌, ◌≤◌, Bool, true, false, List, [], ◌∷◌, length, arith}
use Rattle.std.specs.Prelude.{Option, Some, None}
use Rattle.mini_model.specs.Tree.{Tree, Trees, none, ◌▸◌, count}
use Rattle.mini_model.specs.Paths.{child_at}
use Rattle.mini_model.specs.Weight.{Outline, outline, outlines, nth_is_absent, nth_items, first_is_zero, first_chooses, one_chooses, commas_weight}
use Rattle.mini_node.specs.Children.{trees_of}

pub length_outlines : (ts : Trees) → length (outlines ts) ≡ count ts
length_outlines none = refl
length_outlines (t ▸ ts) = ap suc (length_outlines ts)

pub commas_between : (os : List Outline) → commas_weight os ≡ 2 * (length os - 1)
commas_between [] = refl
commas_between (o ∷ []) = refl
commas_between (o ∷ q ∷ os) = omega (arith, commas_between (q ∷ os))

pub one_chooses_of_many : (xs : List Tree) → 2 ≤ length xs → one_chooses (outlines (trees_of xs)) ≡ false
one_chooses_of_many [] h = absurd (omega arith)
one_chooses_of_many (x ∷ []) h = absurd (omega arith)
one_chooses_of_many (x ∷ y ∷ xs) h = refl

abbrev absent_in : Option Tree → Bool
absent_in None = true
absent_in (Some t) = (outline t).absent

abbrev items_in : Option Tree → ℕ
items_in None = 0
items_in (Some t) = (outline t).items

abbrev zero_in : Option Tree → Bool
zero_in None = false
zero_in (Some t) = (outline t).is_zero

abbrev choice_in : Option Tree → Bool
choice_in None = false
choice_in (Some t) = (outline t).chooses

pub nth_absent : (ts : Trees) (i : ℕ) → nth_is_absent (outlines ts) i ≡ absent_in (child_at ts i)
nth_absent none i = refl
nth_absent (t ▸ ts) zero = refl
nth_absent (t ▸ ts) (suc i) = nth_absent ts i

pub nth_count : (ts : Trees) (i : ℕ) → nth_items (outlines ts) i ≡ items_in (child_at ts i)
nth_count none i = refl
nth_count (t ▸ ts) zero = refl
nth_count (t ▸ ts) (suc i) = nth_count ts i

pub first_zero : (ts : Trees) → first_is_zero (outlines ts) ≡ zero_in (child_at ts 0)
first_zero none = refl
first_zero (t ▸ ts) = refl

pub first_choice : (ts : Trees) → first_chooses (outlines ts) ≡ choice_in (child_at ts 0)
first_choice none = refl
first_choice (t ▸ ts) = refl

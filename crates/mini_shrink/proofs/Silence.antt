-- A child in a slot that may owe no names of a kind declares none.
use Rattle.std.specs.Prelude.{ℕ, suc, ◌≡◌, refl, Bool, true, false, ◌&&◌, ◌||◌, not, List, [], ◌∷◌, ◌++◌, Option, Some, None}
use Rattle.std.proofs.Common.{◌∙◌, sym, true≢false}
use Rattle.mini_model.specs.declared.name.Name.{Name}
use Rattle.mini_model.specs.declared.shape.Shape.{Shape}
use Rattle.mini_model.specs.declared.shape.Shape.TheVariants as shape
use Rattle.mini_model.specs.Tree.{Tree, Trees, node, none, ◌▸◌}
use Rattle.mini_accept.specs.WellShaped.{Tagging, Class, Slot, one, one_or_absent, many, many_or_holes, many_and_rest, many_or_holes_and_rest, quasis, these, each, each_or_last, filling_by, slots_of, class_of, is_function_body_shape, is_whole, is_strict_in, is_last, is_quasi, are_quasis, fits, fill}
use Rattle.mini_laws.specs.declared.names.Declared.{Declared}
use Rattle.mini_laws.specs.declared.names.Declared.TheVariants as declared
use Rattle.mini_laws.specs.declared.names.Place.{Place}
use Rattle.mini_laws.specs.declared.names.Place.TheVariants as place
use Rattle.mini_laws.specs.DeclaredNames.{place_of, names_by, names_of, first_names, all_names}
use Rattle.mini_kept.proofs.Bools.{left, right, both}
use Rattle.mini_kept.proofs.Expressions.{refused_here}
use Rattle.mini_shrink.proofs.Either.{or_parts, not_true, of_either_if}
use Rattle.mini_shrink.proofs.Debts.{Debt, of, of_body, owed, may_owe, slot_owes, is_body, all_silent, first_silent, silent_place, is_silent, owes_little, is_settled_slot, is_settled, are_settled, holds_nothing, holds_nothing_slot, settles, slots_settle}

-- ---- what is settled of a node

abbrev pub all_hold_nothing : List Slot → Bool
all_hold_nothing [] = true
all_hold_nothing (s ∷ ss) = holds_nothing_slot s && all_hold_nothing ss

pub slot_holds : (h : Shape) (i : ℕ) (s : Slot) → is_settled_slot h i s ≡ true → holds_nothing_slot s ≡ true
slot_holds h i s e = right _ (holds_nothing_slot s) (right (is_settled h i s) _ e)

pub slots_hold : (h : Shape) (i : ℕ) (ss : List Slot) → are_settled h i ss ≡ true → all_hold_nothing ss ≡ true
slots_hold h i [] e = refl
slots_hold h i (s ∷ ss) e = both (holds_nothing_slot s) (all_hold_nothing ss) (slot_holds h i s (left (is_settled_slot h i s) (are_settled h (suc i) ss) e)) (slots_hold h (suc i) ss (right (is_settled_slot h i s) (are_settled h (suc i) ss) e))

little_of : (d : Debt) (m : Debt → Bool) (h : Shape) (ss : List Slot) → owes_little m h ss ≡ true → (is_silent d h ss || m d) ≡ true
little_of (of declared.Bound) m h ss e = left (is_silent (of declared.Bound) h ss || m (of declared.Bound)) _ e
little_of (of declared.Lexical) m h ss e = left (is_silent (of declared.Lexical) h ss || m (of declared.Lexical)) _ (right (is_silent (of declared.Bound) h ss || m (of declared.Bound)) _ e)
little_of (of declared.Hoisted) m h ss e =
    left (is_silent (of declared.Hoisted) h ss || m (of declared.Hoisted)) _
    (right (is_silent (of declared.Lexical) h ss || m (of declared.Lexical)) _ (right (is_silent (of declared.Bound) h ss || m (of declared.Bound)) _ e))
little_of of_body m h ss e =
    right (is_silent (of declared.Hoisted) h ss || m (of declared.Hoisted)) _
    (right (is_silent (of declared.Lexical) h ss || m (of declared.Lexical)) _ (right (is_silent (of declared.Bound) h ss || m (of declared.Bound)) _ e))

other_of : (a b : Bool) → b ≡ false → (a || b) ≡ true → a ≡ true
other_of true b e f = refl
other_of false b e f = absurd (true≢false (sym f ∙ e))

-- ---- the walk

by_place : (p : Place) (d : Declared) (ss : List Slot) (xs first bound below : List Name) → silent_place p d ss ≡ true → (first_silent ss ≡ true → first ≡ []) → (all_silent (of declared.Bound) ss ≡ true → bound ≡ []) → (all_silent (of d) ss ≡ true → below ≡ []) → names_by p xs first bound below ≡ []
by_place place.Here d ss xs first bound below e f g k = absurd (true≢false (sym e))
by_place place.FirstBound d ss xs first bound below e f g k = f e
by_place place.Bound d ss xs first bound below e f g k = g e
by_place place.Below d ss xs first bound below e f g k = k e
by_place place.Nowhere d ss xs first bound below e f g k = refl

no_body : (h : Shape) (xs : List Name) (n : ℕ) (ts : Trees) → not (is_function_body_shape h) ≡ true → owed of_body (node h xs n ts) ≡ []
no_body shape.FunctionBody xs n ts e = absurd (true≢false (sym e))
no_body h xs n ts e = refl

nothing_both : (xs ys : List Name) → xs ≡ [] → ys ≡ [] → xs ++ ys ≡ []
nothing_both xs ys e f = λ i. e i ++ f i

-- the children of a node that declare nothing
record Silent (ss : List Slot) (ts : Trees) : Type 0 where
  below : (d : Declared) → all_silent (of d) ss ≡ true → all_names d ts ≡ []
  first : first_silent ss ≡ true → first_names ts ≡ []

silent_slots : (d : Debt) (h : Shape) (xs : List Name) (n : ℕ) (ss : List Slot) (ts : Trees) → is_silent d h ss ≡ true → Silent ss ts → owed d (node h xs n ts) ≡ []
unfolding names_of
silent_slots (of d) h xs n ss ts e f = by_place (place_of d h) d ss xs (first_names ts) (all_names declared.Bound ts) (all_names d ts) e f.first (f.below declared.Bound) (f.below d)
silent_slots of_body h xs n ss ts e f = no_body h xs n ts e

silent_by : (strict : Bool) (d : Debt) (c : Class) (h : Shape) (xs : List Name) (n : ℕ) (ts : Trees) (o : Option (List Slot)) → may_owe d c ≡ false → settles c h o ≡ true → fill strict (filling_by o) ts ≡ true
    → ((ss : List Slot) → all_hold_nothing ss ≡ true → fill strict (these ss) ts ≡ true → Silent ss ts) → owed d (node h xs n ts) ≡ []
silent_by strict d c h xs n ts None k e f g = absurd (true≢false (sym f))
silent_by strict d c h xs n ts (Some ss) k e f g =
    let m = λ (o : Debt). may_owe o c in
    let tail = right (owes_little m h ss) _ e in
    silent_slots d h xs n ss ts (other_of (is_silent d h ss) (may_owe d c) k (little_of d m h ss (left (owes_little m h ss) _ e))) (g ss (slots_hold h 0 ss (left (are_settled h 0 ss) _ tail)) f)

silent_node : (strict : Bool) (d : Debt) (c : Class) (h : Shape) (xs : List Name) (n : ℕ) (ts : Trees) → holds_nothing c ≡ true → may_owe d c ≡ false → fits strict (one c) (node h xs n ts) ≡ true
    → ((ss : List Slot) → all_hold_nothing ss ≡ true → fill (is_strict_in strict h) (these ss) ts ≡ true → Silent ss ts) → owed d (node h xs n ts) ≡ []
silent_node strict d c h xs n ts l k e g = silent_by (is_strict_in strict h) d c h xs n ts (slots_of strict c h) k (slots_settle strict c h l) (right (is_whole c h xs n ts) (fill (is_strict_in strict h) (filling_by (slots_of strict c h)) ts) e) g

silent_absent : (d : Debt) (xs : List Name) (n : ℕ) (ts : Trees) → owed d (node shape.Absent xs n ts) ≡ []
unfolding names_of
silent_absent (of declared.Bound) xs n ts = refl
silent_absent (of declared.Lexical) xs n ts = refl
silent_absent (of declared.Hoisted) xs n ts = refl
silent_absent of_body xs n ts = refl

listed_names : (d : Declared) (xs : List Name) (n : ℕ) (ts : Trees) → all_names d ts ≡ [] → names_of d (node shape.Listed xs n ts) ≡ []
unfolding names_of
listed_names declared.Bound xs n ts e = e
listed_names declared.Lexical xs n ts e = e
listed_names declared.Hoisted xs n ts e = e

empty_place : (p : Place) → names_by p [] [] [] [] ≡ []
empty_place place.Here = refl
empty_place place.FirstBound = refl
empty_place place.Bound = refl
empty_place place.Below = refl
empty_place place.Nowhere = refl

silent_quasi : (d : Declared) (g : Tagging) (last : Bool) (t : Tree) → is_quasi g last t ≡ true → names_of d t ≡ []
unfolding names_of
silent_quasi d g last (node h [] n none) e = empty_place (place_of d h)
silent_quasi d g last t e = absurd (true≢false (sym e))

silent_quasis : (d : Declared) (g : Tagging) (ts : Trees) → are_quasis g ts ≡ true → all_names d ts ≡ []
unfolding names_of
silent_quasis d g none e = refl
silent_quasis d g (t ▸ none) e = nothing_both (names_of d t) [] (silent_quasi d g true t e) refl
silent_quasis d g (t ▸ (u ▸ ts)) e = nothing_both (names_of d t) (all_names d (u ▸ ts)) (silent_quasi d g false t (left (is_quasi g false t) (are_quasis g (u ▸ ts)) e)) (silent_quasis d g (u ▸ ts) (right (is_quasi g false t) (are_quasis g (u ▸ ts)) e))

mutual
  unfolding names_of

  pub silent : (strict : Bool) (d : Debt) (s : Slot) (t : Tree) → holds_nothing_slot s ≡ true → slot_owes d s ≡ false → fits strict s t ≡ true → owed d t ≡ []
  silent strict d (one c) (node h xs n ts) l k e = silent_node strict d c h xs n ts l k e (λ ss f g. record { below = λ b i. silent_these (is_strict_in strict h) b ss ts f i g; first = λ i. silent_first (is_strict_in strict h) ss ts f i g })
  silent strict d (one_or_absent c) (node shape.Absent xs n ts) l k e = silent_absent d xs n ts
  silent strict d (one_or_absent c) (node h xs n ts) l k e = silent_node strict d c h xs n ts l k e (λ ss f g. record { below = λ b i. silent_these (is_strict_in strict h) b ss ts f i g; first = λ i. silent_first (is_strict_in strict h) ss ts f i g })
  silent strict of_body s (node shape.Listed xs n ts) l k e = refl
  silent strict (of d) (many c) (node shape.Listed xs n ts) l k e =
      listed_names d xs n ts (silent_each strict d (one c) ts (left (holds_nothing c) _ l) k (right (is_whole c shape.Listed xs n ts) (fill strict (each (one c)) ts) e))
  silent strict (of d) (many_or_holes c) (node shape.Listed xs n ts) l k e =
      listed_names d xs n ts (silent_each strict d (one_or_absent c) ts (left (holds_nothing c) _ l) k (right (is_whole c shape.Listed xs n ts) (fill strict (each (one_or_absent c)) ts) e))
  silent strict (of d) (many_and_rest c rest) (node shape.Listed xs n ts) l k e =
      let (f, g) = or_parts (may_owe (of d) c) (may_owe (of d) rest) k in
      let first = left (holds_nothing c && not (is_body c)) _ l in
      let last = right (holds_nothing c && not (is_body c)) _ l in
      listed_names d xs n ts (silent_each_or_last strict d (one c) (one rest) ts (left (holds_nothing c) _ first) (left (holds_nothing rest) _ last) f g (right (is_whole c shape.Listed xs n ts) (fill strict (each_or_last (one c) (one rest)) ts) e))
  silent strict (of d) (many_or_holes_and_rest c rest) (node shape.Listed xs n ts) l k e =
      let (f, g) = or_parts (may_owe (of d) c) (may_owe (of d) rest) k in
      let first = left (holds_nothing c && not (is_body c)) _ l in
      let last = right (holds_nothing c && not (is_body c)) _ l in
      listed_names d xs n ts (silent_each_or_last strict d (one_or_absent c) (one rest) ts (left (holds_nothing c) _ first) (left (holds_nothing rest) _ last) f g (right (is_whole c shape.Listed xs n ts) (fill strict (each_or_last (one_or_absent c) (one rest)) ts) e))
  silent strict (of d) (quasis g) (node shape.Listed xs n none) l k e = listed_names d xs n none refl
  silent strict (of d) (quasis g) (node shape.Listed xs n (t ▸ ts)) l k e = listed_names d xs n (t ▸ ts) (silent_quasis d g (t ▸ ts) (right (is_whole (class_of (quasis g)) shape.Listed xs n (t ▸ ts)) (are_quasis g (t ▸ ts)) e))
  silent strict d s (node h xs n ts) l k e = absurd (refused_here strict s h xs n ts refl e)

  silent_these : (strict : Bool) (d : Declared) (ss : List Slot) (ts : Trees) → all_hold_nothing ss ≡ true → all_silent (of d) ss ≡ true → fill strict (these ss) ts ≡ true → all_names d ts ≡ []
  silent_these strict d [] none l f e = refl
  silent_these strict d [] (t ▸ ts) l f e = absurd (true≢false (sym e))
  silent_these strict d (s ∷ ss) none l f e = refl
  silent_these strict d (s ∷ ss) (t ▸ ts) l f e =
      nothing_both (names_of d t) (all_names d ts)
      (silent strict (of d) s t (left (holds_nothing_slot s) (all_hold_nothing ss) l) (not_true (slot_owes (of d) s) (left (not (slot_owes (of d) s)) (all_silent (of d) ss) f)) (left (fits strict s t) (fill strict (these ss) ts) e))
      (silent_these strict d ss ts (right (holds_nothing_slot s) (all_hold_nothing ss) l) (right (not (slot_owes (of d) s)) (all_silent (of d) ss) f) (right (fits strict s t) (fill strict (these ss) ts) e))

  silent_first : (strict : Bool) (ss : List Slot) (ts : Trees) → all_hold_nothing ss ≡ true → first_silent ss ≡ true → fill strict (these ss) ts ≡ true → first_names ts ≡ []
  silent_first strict ss none l f e = refl
  silent_first strict [] (t ▸ ts) l f e = absurd (true≢false (sym e))
  silent_first strict (s ∷ ss) (t ▸ ts) l f e = silent strict (of declared.Bound) s t (left (holds_nothing_slot s) (all_hold_nothing ss) l) (not_true (slot_owes (of declared.Bound) s) f) (left (fits strict s t) (fill strict (these ss) ts) e)

  silent_each : (strict : Bool) (d : Declared) (s : Slot) (ts : Trees) → holds_nothing_slot s ≡ true → slot_owes (of d) s ≡ false → fill strict (each s) ts ≡ true → all_names d ts ≡ []
  silent_each strict d s none l k e = refl
  silent_each strict d s (t ▸ ts) l k e = nothing_both (names_of d t) (all_names d ts) (silent strict (of d) s t l k (left (fits strict s t) (fill strict (each s) ts) e)) (silent_each strict d s ts l k (right (fits strict s t) (fill strict (each s) ts) e))

  silent_each_or_last : (strict : Bool) (d : Declared) (s r : Slot) (ts : Trees) → holds_nothing_slot s ≡ true → holds_nothing_slot r ≡ true → slot_owes (of d) s ≡ false → slot_owes (of d) r ≡ false → fill strict (each_or_last s r) ts ≡ true → all_names d ts ≡ []
  silent_each_or_last strict d s r none l m f g e = refl
  silent_each_or_last strict d s r (t ▸ ts) l m f g e =
      nothing_both (names_of d t) (all_names d ts)
      (of_either_if (fits strict s t) (is_last ts) (fits strict r t) (names_of d t ≡ []) (silent strict (of d) s t l f) (silent strict (of d) r t m g) (left (fits strict s t || (is_last ts && fits strict r t)) (fill strict (each_or_last s r) ts) e))
      (silent_each_or_last strict d s r ts l m f g (right (fits strict s t || (is_last ts && fits strict r t)) (fill strict (each_or_last s r) ts) e))

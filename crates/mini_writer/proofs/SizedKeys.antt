-- What stands at different keys of a value counts less than the value.
use Rattle.std.proofs.Common.{◌≡◌, ℕ, ◌+◌, ◌<◌, ◌≤◌, List, [], ◌∷◌, Option, Some, None, option_and_then, Ordering, Less, Equal, Greater, nat_cmp, is_eq, false, true≢false, refl, sym, ap, ◌∙◌, subst, arith}
use Rattle.std.specs.Prelude.{⊤}
use Rattle.std.proofs.lemmas.Map.Text.{is_eq-slice_cmp}
use Rattle.std.proofs.lemmas.Slice.Eq.{bytes_eq-Decides}
use Rattle.std.specs.Cmp.Lexicographic.{slice_cmp}
use Rattle.std.specs.Ordering.{match_ordering}
use Rattle.serde_json.specs.Data.{Data, null, boolean, number, string, array, object, Items, Members, no_members, member}
use Rattle.serde_json.specs.Find.{get, get_member, as_array}
use Rattle.mini_writer.specs.Fits.{values_in, values_in_items, values_in_members}

-- the values of what was found
abbrev pub values_found : Option Data → ℕ
values_found None = 0
values_found (Some d) = values_in d

abbrev pub IsOther : List ℕ → List ℕ → Type 0
IsOther k q = is_eq (slice_cmp nat_cmp q k) ≡ false

abbrev pub AreOther : List ℕ → List (List ℕ) → Type 0
AreOther k [] = ⊤
AreOther k (q ∷ qs) = IsOther k q × AreOther k qs

-- no key stands twice
abbrev pub AreDifferent : List (List ℕ) → Type 0
AreDifferent [] = ⊤
AreDifferent (k ∷ ks) = AreOther k ks × AreDifferent ks

abbrev pub values_at : List (List ℕ) → Data → ℕ
values_at [] d = 0
values_at (k ∷ ks) d = values_found (get k d) + values_at ks d

abbrev values_of_members : List (List ℕ) → Members → ℕ
values_of_members [] ms = 0
values_of_members (k ∷ ks) ms = values_found (get_member k ms) + values_of_members ks ms

-- the members without the one that is found at k
abbrev pub without : List ℕ → Members → Members
without k no_members = no_members
without k (member l e ms) = match_ordering (slice_cmp nat_cmp k l) (member l e (without k ms)) ms (member l e (without k ms))

split_at : (o : Ordering) (k l : List ℕ) (e : Data) (ms : Members) → values_found (get_member k ms) + values_in_members (without k ms) ≡ values_in_members ms
    → values_found (match_ordering o (get_member k ms) (Some e) (get_member k ms)) + values_in_members (match_ordering o (member l e (without k ms)) ms (member l e (without k ms))) ≡ values_in e + values_in_members ms
split_at Less k l e ms h = omega arith
split_at Equal k l e ms h = refl
split_at Greater k l e ms h = omega arith

split : (k : List ℕ) (ms : Members) → values_found (get_member k ms) + values_in_members (without k ms) ≡ values_in_members ms
split k no_members = refl
split k (member l e ms) = split_at (slice_cmp nat_cmp k l) k l e ms (split k ms)

same_key : (k l : List ℕ) → slice_cmp nat_cmp k l ≡ Equal → k ≡ l
same_key k l e = (bytes_eq-Decides k l).0 (sym (is_eq-slice_cmp k l) ∙ ap is_eq e)

either : (o : Ordering) (a b : Option Data) → is_eq o ≡ false → match_ordering o a b a ≡ a
either Less a b e = refl
either Equal a b e = absurd (true≢false e)
either Greater a b e = refl

kept_at : (o : Ordering) (k q l : List ℕ) (e : Data) (ms : Members) → slice_cmp nat_cmp k l ≡ o → IsOther k q → get_member q (without k ms) ≡ get_member q ms
    → get_member q (match_ordering o (member l e (without k ms)) ms (member l e (without k ms))) ≡ get_member q (member l e ms)
kept_at Less k q l e ms is other h = rw h refl
kept_at Equal k q l e ms is other h = sym (either (slice_cmp nat_cmp q l) (get_member q ms) (Some e) (subst (λ (x : List ℕ). is_eq (slice_cmp nat_cmp q x) ≡ false) (same_key k l is) other))
kept_at Greater k q l e ms is other h = rw h refl

pub kept : (k q : List ℕ) (ms : Members) → IsOther k q → get_member q (without k ms) ≡ get_member q ms
kept k q no_members other = refl
kept k q (member l e ms) other = kept_at (slice_cmp nat_cmp k l) k q l e ms refl other (kept k q ms other)

all_kept : (k : List ℕ) (qs : List (List ℕ)) (ms : Members) → AreOther k qs → values_of_members qs (without k ms) ≡ values_of_members qs ms
all_kept k [] ms others = refl
all_kept k (q ∷ qs) ms others = rw (kept k q ms others.0, all_kept k qs ms others.1) refl

members_hold : (ks : List (List ℕ)) (ms : Members) → AreDifferent ks → values_of_members ks ms ≤ values_in_members ms
members_hold [] ms apart = omega arith
members_hold (k ∷ ks) ms apart = omega (arith, all_kept k ks ms apart.0, members_hold ks (without k ms) apart.1, split k ms)

none_at : (ks : List (List ℕ)) (d : Data) → ((k : List ℕ) → get k d ≡ None) → values_at ks d ≡ 0
none_at [] d h = refl
none_at (k ∷ ks) d h = rw (h k, none_at ks d h) refl

in_object : (ks : List (List ℕ)) (ms : Members) → values_at ks (object ms) ≡ values_of_members ks ms
in_object [] ms = refl
in_object (k ∷ ks) ms = ap (λ n. values_found (get_member k ms) + n) (in_object ks ms)

pub values_below : (ks : List (List ℕ)) (d : Data) → AreDifferent ks → values_at ks d + 1 ≤ values_in d
values_below ks null apart = omega (arith, none_at ks null (λ k. refl))
values_below ks (boolean b) apart = omega (arith, none_at ks (boolean b) (λ k. refl))
values_below ks (number n) apart = omega (arith, none_at ks (number n) (λ k. refl))
values_below ks (string s) apart = omega (arith, none_at ks (string s) (λ k. refl))
values_below ks (array ds) apart = omega (arith, none_at ks (array ds) (λ k. refl))
values_below ks (object ms) apart = omega (arith, in_object ks ms, members_hold ks ms apart)

-- of one key
pub value_below : (k : List ℕ) (d e : Data) → get k d ≡ Some e → values_in e < values_in d
value_below k d e found = let h : values_found (get k d) ≡ values_in e = rw found refl in omega (arith, values_below (k ∷ []) d (tt, tt), h)

-- of the items of an array
abbrev pub values_of_items : Option Items → ℕ
values_of_items None = 0
values_of_items (Some ds) = values_in_items ds

array_holds : (o : Option Data) → values_of_items (option_and_then as_array o) ≤ values_found o
array_holds None = omega arith
array_holds (Some null) = omega arith
array_holds (Some (boolean b)) = omega arith
array_holds (Some (number n)) = omega arith
array_holds (Some (string s)) = omega arith
array_holds (Some (array ds)) = omega arith
array_holds (Some (object ms)) = omega arith

pub array_within : (k : List ℕ) (d : Data) → values_of_items (option_and_then as_array (get k d)) ≤ values_found (get k d)
array_within k d = array_holds (get k d)

pub some_value : (d : Data) → 0 < values_in d
some_value d = omega (arith, values_below [] d tt)

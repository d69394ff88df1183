-- How much of a value there is, its texts counted: what stands at different keys is less than the value.
use Rattle.std.proofs.Common.{◌≡◌, ℕ, ◌+◌, ◌*◌, ◌≤◌, List, [], ◌∷◌, length, Bool, true, ◌&&◌, Option, Some, None, option_and_then, Ordering, Less, Equal, Greater, nat_cmp, is_eq, refl, ap, arith}
use Rattle.std.specs.Prelude.{not, nat_le}
use Rattle.std.proofs.lemmas.Bool.{and_parts, not-true, leb-true}
use Rattle.std.specs.Cmp.Lexicographic.{slice_cmp}
use Rattle.std.specs.Ordering.{match_ordering}
use Rattle.serde_json.specs.Data.{Data, null, boolean, number, string, array, object, Items, Members, no_members, member}
use Rattle.serde_json.specs.Find.{get, get_member, as_str, as_array}
use Rattle.mini_model.specs.Texts.{units_of}
use Rattle.mini_writer.specs.Fits.{values_in, values_in_items, values_in_members, units_in, units_in_items, units_in_members}
use Rattle.mini_writer.proofs.SizedKeys.{AreOther, AreDifferent, without, kept}

-- 128 for each value and 2 for each unit
abbrev pub amount : Data → ℕ
amount d = 128 * values_in d + 2 * units_in d

abbrev pub items_amount : Items → ℕ
items_amount ds = 128 * values_in_items ds + 2 * units_in_items ds

abbrev members_amount : Members → ℕ
members_amount ms = 128 * values_in_members ms + 2 * units_in_members ms

-- of what was found
abbrev pub found : Option Data → ℕ
found None = 0
found (Some d) = amount d

abbrev pub found_items : Option Items → ℕ
found_items None = 0
found_items (Some ds) = items_amount ds

abbrev pub found_at : List (List ℕ) → Data → ℕ
found_at [] d = 0
found_at (k ∷ ks) d = found (get k d) + found_at ks d

abbrev found_in : List (List ℕ) → Members → ℕ
found_in [] ms = 0
found_in (k ∷ ks) ms = found (get_member k ms) + found_in ks ms

split_at : (o : Ordering) (k l : List ℕ) (e : Data) (ms : Members) → found (get_member k ms) + members_amount (without k ms) ≤ members_amount ms
    → found (match_ordering o (get_member k ms) (Some e) (get_member k ms)) + members_amount (match_ordering o (member l e (without k ms)) ms (member l e (without k ms))) ≤ members_amount (member l e ms)
split_at Less k l e ms h = omega arith
split_at Equal k l e ms h = omega arith
split_at Greater k l e ms h = omega arith

split : (k : List ℕ) (ms : Members) → found (get_member k ms) + members_amount (without k ms) ≤ members_amount ms
split k no_members = omega arith
split k (member l e ms) = split_at (slice_cmp nat_cmp k l) k l e ms (split k ms)

all_kept : (k : List ℕ) (qs : List (List ℕ)) (ms : Members) → AreOther k qs → found_in qs (without k ms) ≡ found_in qs ms
all_kept k [] ms others = refl
all_kept k (q ∷ qs) ms others = rw (kept k q ms others.0, all_kept k qs ms others.1) refl

members_hold : (ks : List (List ℕ)) (ms : Members) → AreDifferent ks → found_in ks ms ≤ members_amount ms
members_hold [] ms apart = omega arith
members_hold (k ∷ ks) ms apart = omega (arith, all_kept k ks ms apart.0, members_hold ks (without k ms) apart.1, split k ms)

none_at : (ks : List (List ℕ)) (d : Data) → ((k : List ℕ) → get k d ≡ None) → found_at ks d ≡ 0
none_at [] d h = refl
none_at (k ∷ ks) d h = rw (h k, none_at ks d h) refl

in_object : (ks : List (List ℕ)) (ms : Members) → found_at ks (object ms) ≡ found_in ks ms
in_object [] ms = refl
in_object (k ∷ ks) ms = ap (λ n. found (get_member k ms) + n) (in_object ks ms)

-- the value itself counts beside what it holds
pub amounts_below : (ks : List (List ℕ)) (d : Data) → AreDifferent ks → found_at ks d + 128 ≤ amount d
amounts_below ks null apart = omega (arith, none_at ks null (λ k. refl))
amounts_below ks (boolean b) apart = omega (arith, none_at ks (boolean b) (λ k. refl))
amounts_below ks (number n) apart = omega (arith, none_at ks (number n) (λ k. refl))
amounts_below ks (string s) apart = omega (arith, none_at ks (string s) (λ k. refl))
amounts_below ks (array ds) apart = omega (arith, none_at ks (array ds) (λ k. refl))
amounts_below ks (object ms) apart = omega (arith, in_object ks ms, members_hold ks ms apart)

pub some_amount : (d : Data) → 128 ≤ amount d
some_amount d = omega (arith, amounts_below [] d tt)

-- of one key, whose value counts beside what it holds itself
pub amount_at : (k : List ℕ) (d : Data) → found (get k d) ≤ amount d
amount_at k d = omega (arith, amounts_below (k ∷ []) d (tt, tt))

-- of the items of an array
pub items_within : (o : Option Data) → found_items (option_and_then as_array o) ≤ found o
items_within None = omega arith
items_within (Some null) = omega arith
items_within (Some (boolean b)) = omega arith
items_within (Some (number n)) = omega arith
items_within (Some (string s)) = omega arith
items_within (Some (array ds)) = omega arith
items_within (Some (object ms)) = omega arith

-- of a text
abbrev pub text_length : Option (List ℕ) → ℕ
text_length None = 0
text_length (Some s) = length (units_of s)

pub text_within : (o : Option Data) → 2 * text_length (option_and_then as_str o) ≤ found o
text_within None = omega arith
text_within (Some null) = omega arith
text_within (Some (boolean b)) = omega arith
text_within (Some (number n)) = omega arith
text_within (Some (string s)) = omega arith
text_within (Some (array ds)) = omega arith
text_within (Some (object ms)) = omega arith

-- ---- keys that differ, by a test

abbrev is_other : List ℕ → List (List ℕ) → Bool
is_other k [] = true
is_other k (q ∷ qs) = not (is_eq (slice_cmp nat_cmp q k)) && is_other k qs

abbrev differ : List (List ℕ) → Bool
differ [] = true
differ (k ∷ ks) = is_other k ks && differ ks

-- at most four keys, each another one
abbrev pub are_few : List (List ℕ) → Bool
are_few ks = nat_le (length ks) 4 && differ ks

others : (k : List ℕ) (qs : List (List ℕ)) → is_other k qs ≡ true → AreOther k qs
others k [] e = tt
others k (q ∷ qs) e = let (a, b) = and_parts (not (is_eq (slice_cmp nat_cmp q k))) (is_other k qs) e in (not-true (is_eq (slice_cmp nat_cmp q k)) a, others k qs b)

different : (ks : List (List ℕ)) → differ ks ≡ true → AreDifferent ks
different [] e = tt
different (k ∷ ks) e = let (a, b) = and_parts (is_other k ks) (differ ks) e in (others k ks a, different ks b)

pub few_different : (ks : List (List ℕ)) → are_few ks ≡ true → AreDifferent ks
few_different ks e = different ks (and_parts (nat_le (length ks) 4) (differ ks) e).1

pub few_count : (ks : List (List ℕ)) → are_few ks ≡ true → length ks ≤ 4
few_count ks e = leb-true (length ks) 4 (and_parts (nat_le (length ks) 4) (differ ks) e).0

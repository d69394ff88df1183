-- A name is a word: no unit of it begins another token.
use Rattle.std.proofs.Common.{◌≡◌, ℕ, zero, suc, ◌<◌, ◌≤◌, Bool, true, false, ◌&&◌, ◌||◌, ◌==◌, not, List, [], ◌∷◌, refl, sym, ap, subst, ◌∙◌, ◌⊎◌, inl, inr, arith}
use Rattle.std.specs.Prelude.{Option, Some, None, nat_lt, nat_le, nat_eq, if◌then◌else◌}
use Rattle.std.specs.Char.{is_ascii_alphabetic, is_ascii_alphanumeric}
use Rattle.std.specs.Char.Utf16.{utf16_chars, lone_unit_char, is_high_surrogate, is_low_surrogate, surrogate_pair_char}
use Rattle.std.proofs.lemmas.Bool.{false≢true, ltb-true, ltb-false, le-ltb, eqb-true}
use Rattle.unicode_ident.proofs.IdentLemmas.{is_xid_start-ascii, is_xid_continue-ascii}
use Rattle.mini_model.specs.Texts.{are_units, is_name_start, is_name_part, are_name_parts, is_name_of_chars, is_identifier_name}
use Rattle.mini_accept.specs.WellShaped.{is_name}
use Rattle.mini_print.specs.Text.{is_word_unit, is_digit, are_word_units, is_word}
use Rattle.mini_printable.proofs.Clean.{and_l, and_r, both}

-- a test that holds of each number below another
abbrev all_to : ℕ → (ℕ → Bool) → Bool
all_to zero f = true
all_to (suc n) f = f n && all_to n f

below_or_last : (c n : ℕ) → c < suc n → (c ≡ n) ⊎ (c < n)
below_or_last c n h = by (nat_lt c n) refl
  where
    last : c < suc n → n ≤ c → c ≡ n
    last p q = omega (arith, p, q)

    by : (b : Bool) → nat_lt c n ≡ b → (c ≡ n) ⊎ (c < n)
    by true e = inr (ltb-true c n e)
    by false e = inl (last h (ltb-false c n e))

holds_below : (n : ℕ) (f : ℕ → Bool) → all_to n f ≡ true → (c : ℕ) → c < n → f c ≡ true
holds_below zero f e c h = absurd (none h)
  where
    none : c < 0 → ⊥
    none p = omega (arith, p)
holds_below (suc n) f e c h = by (below_or_last c n h) (holds_below n f (and_r (f n) (all_to n f) e) c)
  where
    by : (c ≡ n) ⊎ (c < n) → (c < n → f c ≡ true) → f c ≡ true
    by (inl p) g = ap f p ∙ and_l (f n) (all_to n f) e
    by (inr p) g = g p

implied : (a b : Bool) → (not a || b) ≡ true → a ≡ true → b ≡ true
implied true b e f = e
implied false b e f = absurd (false≢true f)

-- beyond ASCII
not_below : (c k : ℕ) → 128 ≤ c → k ≤ 128 → nat_lt c k ≡ false
not_below c k h p = le-ltb c k (between h p)
  where
    between : 128 ≤ c → k ≤ 128 → k ≤ c
    between a b = omega (arith, a, b)

not_equal : (c k : ℕ) → 128 ≤ c → k < 128 → nat_eq c k ≡ false
not_equal c k h p = by (nat_eq c k) refl
  where
    apart : c ≡ k → 128 ≤ c → k < 128 → ⊥
    apart e a b = omega (arith, e, a, b)

    by : (b : Bool) → nat_eq c k ≡ b → b ≡ false
    by true e = absurd (apart (eqb-true c k e) h p)
    by false e = refl

and_false : (a b : Bool) → b ≡ false → (a && b) ≡ false
and_false true b e = e
and_false false b e = refl

or_false : (a b : Bool) → a ≡ false → b ≡ false → (a || b) ≡ false
or_false a b e f = ap (λ x. x || b) e ∙ f

large_unit : (c : ℕ) → 128 ≤ c → is_word_unit c ≡ true
large_unit c h =
    ap not
    (or_false (((((nat_lt c 36 || (nat_lt 36 c && nat_lt c 48)) || (nat_lt 57 c && nat_lt c 65)) || (nat_lt 90 c && nat_lt c 95)) || nat_eq c 96)) (nat_lt 122 c && nat_lt c 127)
    (or_false ((((nat_lt c 36 || (nat_lt 36 c && nat_lt c 48)) || (nat_lt 57 c && nat_lt c 65)) || (nat_lt 90 c && nat_lt c 95))) (nat_eq c 96)
    (or_false (((nat_lt c 36 || (nat_lt 36 c && nat_lt c 48)) || (nat_lt 57 c && nat_lt c 65))) (nat_lt 90 c && nat_lt c 95)
    (or_false ((nat_lt c 36 || (nat_lt 36 c && nat_lt c 48))) (nat_lt 57 c && nat_lt c 65)
    (or_false (nat_lt c 36) (nat_lt 36 c && nat_lt c 48) (not_below c 36 h small) (and_false (nat_lt 36 c) (nat_lt c 48) (not_below c 48 h small2)))
    (and_false (nat_lt 57 c) (nat_lt c 65) (not_below c 65 h small3)))
    (and_false (nat_lt 90 c) (nat_lt c 95) (not_below c 95 h small4)))
    (not_equal c 96 h small5))
    (and_false (nat_lt 122 c) (nat_lt c 127) (not_below c 127 h small6)))
  where
    small : 36 ≤ 128
    small = omega arith

    small2 : 48 ≤ 128
    small2 = omega arith

    small3 : 65 ≤ 128
    small3 = omega arith

    small4 : 95 ≤ 128
    small4 = omega arith

    small5 : 96 < 128
    small5 = omega arith

    small6 : 127 ≤ 128
    small6 = omega arith

large_digit : (c : ℕ) → 128 ≤ c → is_digit c ≡ false
large_digit c h = and_false (nat_lt 47 c) (nat_lt c 58) (not_below c 58 h small)
  where
    small : 58 ≤ 128
    small = omega arith

-- in ASCII
small_part : (c : ℕ) → c < 128 → is_name_part c ≡ true → is_word_unit c ≡ true
small_part c h e =
    implied (((is_ascii_alphanumeric c || (c == 95)) || (c == 36)) || (c == 0x200C) || (c == 0x200D)) (is_word_unit c)
    (holds_below 128 (λ x. not (((is_ascii_alphanumeric x || (x == 95)) || (x == 36)) || (x == 0x200C) || (x == 0x200D)) || is_word_unit x) refl c h)
    (subst (λ b. ((b || (c == 36)) || (c == 0x200C) || (c == 0x200D)) ≡ true) (is_xid_continue-ascii c h) e)

small_start : (c : ℕ) → c < 128 → is_name_start c ≡ true → (not (is_digit c) && is_word_unit c) ≡ true
small_start c h e =
    implied ((is_ascii_alphabetic c || (c == 36)) || (c == 95)) (not (is_digit c) && is_word_unit c)
    (holds_below 128 (λ x. not ((is_ascii_alphabetic x || (x == 36)) || (x == 95)) || (not (is_digit x) && is_word_unit x)) refl c h)
    (subst (λ b. ((b || (c == 36)) || (c == 95)) ≡ true) (is_xid_start-ascii c h) e)

part_unit : (c : ℕ) → is_name_part c ≡ true → is_word_unit c ≡ true
part_unit c e = by (nat_lt c 128) refl
  where
    by : (b : Bool) → nat_lt c 128 ≡ b → is_word_unit c ≡ true
    by true p = small_part c (ltb-true c 128 p) e
    by false p = large_unit c (ltb-false c 128 p)

start_unit : (c : ℕ) → is_name_start c ≡ true → (not (is_digit c) && is_word_unit c) ≡ true
start_unit c e = by (nat_lt c 128) refl
  where
    by : (b : Bool) → nat_lt c 128 ≡ b → (not (is_digit c) && is_word_unit c) ≡ true
    by true p = small_start c (ltb-true c 128 p) e
    by false p = both (not (is_digit c)) (is_word_unit c) (ap not (large_digit c (ltb-false c 128 p))) (large_unit c (ltb-false c 128 p))

high_large : (u : ℕ) → is_high_surrogate u ≡ true → 128 ≤ u
high_large u e = by (nat_lt u 128) refl
  where
    by : (b : Bool) → nat_lt u 128 ≡ b → 128 ≤ u
    by false p = ltb-false u 128 p
    by true p = absurd (false≢true (sym (ap not e) ∙ holds_below 128 (λ x. not (is_high_surrogate x)) refl u (ltb-true u 128 p)))

low_large : (u : ℕ) → is_low_surrogate u ≡ true → 128 ≤ u
low_large u e = by (nat_lt u 128) refl
  where
    by : (b : Bool) → nat_lt u 128 ≡ b → 128 ≤ u
    by false p = ltb-false u 128 p
    by true p = absurd (false≢true (sym (ap not e) ∙ holds_below 128 (λ x. not (is_low_surrogate x)) refl u (ltb-true u 128 p)))

-- ---- texts

lone_part : (b : Bool) (u : ℕ) (cs : List (Option ℕ)) → are_name_parts ((if b then None else Some u) ∷ cs) ≡ true → (is_word_unit u ≡ true) × (are_name_parts cs ≡ true)
lone_part true u cs e = absurd (false≢true e)
lone_part false u cs e = (part_unit u (and_l (is_name_part u) (are_name_parts cs) e), and_r (is_name_part u) (are_name_parts cs) e)

word_units : (s : List ℕ) → are_name_parts (utf16_chars s) ≡ true → are_word_units s ≡ true
unfolding utf16_chars
word_units [] e = refl
word_units (u ∷ []) e = let a = lone_part (nat_le 0xD800 u && nat_lt u 0xE000) u [] e in both (is_word_unit u) true a.0 refl
word_units (u ∷ v ∷ us) e = by (is_high_surrogate u && is_low_surrogate v) refl e (word_units us) (word_units (v ∷ us))
  where
    by : (b : Bool) → (is_high_surrogate u && is_low_surrogate v) ≡ b → are_name_parts (if b then Some (surrogate_pair_char u v) ∷ utf16_chars us else lone_unit_char u ∷ utf16_chars (v ∷ us)) ≡ true → (are_name_parts (utf16_chars us) ≡ true → are_word_units us ≡ true) → (are_name_parts (utf16_chars (v ∷ us)) ≡ true → are_word_units (v ∷ us) ≡ true) → are_word_units (u ∷ v ∷ us) ≡ true
    by true p d f g =
        both (is_word_unit u) (is_word_unit v && are_word_units us) (large_unit u (high_large u (and_l (is_high_surrogate u) (is_low_surrogate v) p)))
        (both (is_word_unit v) (are_word_units us) (large_unit v (low_large v (and_r (is_high_surrogate u) (is_low_surrogate v) p))) (f (and_r (is_name_part (surrogate_pair_char u v)) (are_name_parts (utf16_chars us)) d)))
    by false p d f g = let a = lone_part (nat_le 0xD800 u && nat_lt u 0xE000) u (utf16_chars (v ∷ us)) d in both (is_word_unit u) (are_word_units (v ∷ us)) a.0 (g a.1)

lone_start : (b : Bool) (u : ℕ) (cs : List (Option ℕ)) → is_name_of_chars ((if b then None else Some u) ∷ cs) ≡ true → ((not (is_digit u) && is_word_unit u) ≡ true) × (are_name_parts cs ≡ true)
lone_start true u cs e = absurd (false≢true e)
lone_start false u cs e = (start_unit u (and_l (is_name_start u) (are_name_parts cs) e), and_r (is_name_start u) (are_name_parts cs) e)

begun : (u : ℕ) (s : List ℕ) → (not (is_digit u) && is_word_unit u) ≡ true → are_word_units s ≡ true → is_word (u ∷ s) ≡ true
begun u s e f = both (not (is_digit u)) (is_word_unit u && are_word_units s) (and_l (not (is_digit u)) (is_word_unit u) e) (both (is_word_unit u) (are_word_units s) (and_r (not (is_digit u)) (is_word_unit u) e) f)

identifier_word : (s : List ℕ) → is_identifier_name s ≡ true → is_word s ≡ true
unfolding utf16_chars
identifier_word [] e = absurd (false≢true e)
identifier_word (u ∷ []) e = let a = lone_start (nat_le 0xD800 u && nat_lt u 0xE000) u [] e in begun u [] a.0 refl
identifier_word (u ∷ v ∷ us) e = by (is_high_surrogate u && is_low_surrogate v) refl e
  where
    by : (b : Bool) → (is_high_surrogate u && is_low_surrogate v) ≡ b → is_name_of_chars (if b then Some (surrogate_pair_char u v) ∷ utf16_chars us else lone_unit_char u ∷ utf16_chars (v ∷ us)) ≡ true → is_word (u ∷ v ∷ us) ≡ true
    by true p d =
        let h = high_large u (and_l (is_high_surrogate u) (is_low_surrogate v) p) in
        begun u (v ∷ us) (both (not (is_digit u)) (is_word_unit u) (ap not (large_digit u h)) (large_unit u h))
        (both (is_word_unit v) (are_word_units us) (large_unit v (low_large v (and_r (is_high_surrogate u) (is_low_surrogate v) p))) (word_units us (and_r (is_name_start (surrogate_pair_char u v)) (are_name_parts (utf16_chars us)) d)))
    by false p d = let a = lone_start (nat_le 0xD800 u && nat_lt u 0xE000) u (utf16_chars (v ∷ us)) d in begun u (v ∷ us) a.0 (word_units (v ∷ us) a.1)

pub name_is_word : (s : List ℕ) → is_name s ≡ true → is_word s ≡ true
name_is_word s e = identifier_word s (and_r (are_units s) (is_identifier_name s) e)

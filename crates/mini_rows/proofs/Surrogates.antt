-- Of two texts whose surrogates have partners the text that joins them has none without.
use Rattle.std.proofs.Common.{◌≡◌, ℕ, zero, suc, ◌+◌, ◌<◌, Bool, true, false, List, [], ◌∷◌, Option, Some, None, refl, sym, ap, ◌∙◌, true≢false, ltb-true, ltb-false, arith}
use Rattle.std.specs.Prelude.{◌&&◌, ◌||◌, ◌++◌, ◌/◌, ◌%◌, ◌==◌, ℤ, pos, negsuc, not, nat_le, nat_lt, is_some, if◌then◌else◌}
use Rattle.std.specs.Fmt.{digit_glyph, digits_onto, digits, decimal, signed_decimal}
use Rattle.std.specs.List.{list_any}
use Rattle.std.specs.Char.Utf16.{is_high_surrogate, is_low_surrogate, surrogate_pair_char, lone_unit_char, utf16_chars, has_unpaired_surrogate}
use Rattle.std.proofs.lemmas.Bool.{and_parts, leb-true, lt-ltb}
use Rattle.mini_model.specs.Texts.{are_units}
use Rattle.mini_accept.specs.WellShaped.{is_paired}

abbrev pub missing : Option ℕ → Bool
missing o = not (is_some o)

abbrev lone : Bool → ℕ → Option ℕ
lone b u = if b then None else Some u

pub none_missing : (b c : Bool) → b || c ≡ false → (b ≡ false) × (c ≡ false)
none_missing false c e = (refl, e)
none_missing true c e = absurd (true≢false e)

pub or_false : (b c : Bool) → b ≡ false → c ≡ false → b || c ≡ false
or_false false c e f = f
or_false true c e f = absurd (true≢false e)

-- a unit that is no surrogate begins no pair
no_high : (a b c : Bool) → (b ≡ false → c ≡ false) → missing (lone (a && b) 0) ≡ false → a && c ≡ false
no_high true true c h e = absurd (true≢false e)
no_high true false c h e = h refl
no_high false b c h e = refl

below : (u : ℕ) → nat_lt u 0xE000 ≡ false → nat_lt u 0xDC00 ≡ false
below u e = go (nat_lt u 0xDC00) refl
  where
    go : (b : Bool) → nat_lt u 0xDC00 ≡ b → b ≡ false
    go false f = refl
    go true f = absurd (omega (arith, ltb-true u 0xDC00 f, ltb-false u 0xE000 e))

missing_of : (b : Bool) (u : ℕ) → missing (lone b u) ≡ missing (lone b 0)
missing_of true u = refl
missing_of false u = refl

not_high : (u : ℕ) → missing (lone_unit_char u) ≡ false → is_high_surrogate u ≡ false
not_high u e = no_high (nat_le 0xD800 u) (nat_lt u 0xE000) (nat_lt u 0xDC00) (below u) (sym (missing_of (nat_le 0xD800 u && nat_lt u 0xE000) u) ∙ e)

abbrev pub chars_by : Bool → ℕ → ℕ → List ℕ → List (Option ℕ)
chars_by pair u v us = if pair then Some (surrogate_pair_char u v) ∷ utf16_chars us else lone_unit_char u ∷ utf16_chars (v ∷ us)

pub unpaired_by : (pair : Bool) (u v : ℕ) (us : List ℕ) → list_any missing (chars_by pair u v us) ≡ (if pair then list_any missing (utf16_chars us) else missing (lone_unit_char u) || list_any missing (utf16_chars (v ∷ us)))
unpaired_by true u v us = refl
unpaired_by false u v us = refl

-- after a unit that is no surrogate the rest is read by itself
pub unit_first : (u : ℕ) (us : List ℕ) → missing (lone_unit_char u) ≡ false → list_any missing (utf16_chars us) ≡ false → list_any missing (utf16_chars (u ∷ us)) ≡ false
unfolding utf16_chars
unit_first u [] e f = or_false (missing (lone_unit_char u)) false e refl
unit_first u (v ∷ us) e f =
    ap (λ b. list_any missing (chars_by (b && is_low_surrogate v) u v us)) (not_high u e)
    ∙ or_false (missing (lone_unit_char u)) (list_any missing (utf16_chars (v ∷ us))) e f

pub paired_joined : (s t : List ℕ) → has_unpaired_surrogate s ≡ false → has_unpaired_surrogate t ≡ false → has_unpaired_surrogate (s ++ t) ≡ false
unfolding utf16_chars
paired_joined [] t e f = f
paired_joined (u ∷ []) t e f = unit_first u t (none_missing (missing (lone_unit_char u)) false e).0 f
paired_joined (u ∷ (v ∷ us)) t e f = go (is_high_surrogate u && is_low_surrogate v) refl (sym (unpaired_by (is_high_surrogate u && is_low_surrogate v) u v us) ∙ e) (λ k. paired_joined us t k f) (λ k. paired_joined (v ∷ us) t k f)
  where
    go : (pair : Bool) → is_high_surrogate u && is_low_surrogate v ≡ pair → (if pair then list_any missing (utf16_chars us) else missing (lone_unit_char u) || list_any missing (utf16_chars (v ∷ us))) ≡ false → (list_any missing (utf16_chars us) ≡ false → list_any missing (utf16_chars (us ++ t)) ≡ false) → (list_any missing (utf16_chars (v ∷ us)) ≡ false → list_any missing (utf16_chars (v ∷ (us ++ t))) ≡ false) → list_any missing (chars_by (is_high_surrogate u && is_low_surrogate v) u v (us ++ t)) ≡ false
    go true h k p q = ap (λ b. list_any missing (chars_by b u v (us ++ t))) h ∙ p k
    go false h k p q =
        let (first, rest) = none_missing (missing (lone_unit_char u)) (list_any missing (utf16_chars (v ∷ us))) k in
        ap (λ b. list_any missing (chars_by b u v (us ++ t))) h ∙ or_false (missing (lone_unit_char u)) (list_any missing (utf16_chars (v ∷ (us ++ t)))) first (q rest)

units_joined : (s t : List ℕ) → are_units s ≡ true → are_units t ≡ true → are_units (s ++ t) ≡ true
units_joined [] t e f = f
units_joined (u ∷ us) t e f = let (first, rest) = and_parts (nat_lt u 0x1_0000) (are_units us) e in both (nat_lt u 0x1_0000) (are_units (us ++ t)) first (units_joined us t rest f)
  where
    both : (b c : Bool) → b ≡ true → c ≡ true → b && c ≡ true
    both true c e f = f
    both false c e f = e

pub not_true : (b : Bool) → not b ≡ true → b ≡ false
not_true false e = refl
not_true true e = absurd (true≢false (sym e))

both_true : (b c : Bool) → b ≡ true → c ≡ true → b && c ≡ true
both_true true c e f = f
both_true false c e f = e

pub is_paired_joined : (s t : List ℕ) → is_paired s ≡ true → is_paired t ≡ true → is_paired (s ++ t) ≡ true
is_paired_joined s t e f =
    let (units, paired) = and_parts (are_units s) (not (has_unpaired_surrogate s)) e in
    let (others, rest) = and_parts (are_units t) (not (has_unpaired_surrogate t)) f in
    both_true (are_units (s ++ t)) (not (has_unpaired_surrogate (s ++ t))) (units_joined s t units others) (ap not (paired_joined s t (not_true _ paired) (not_true _ rest)))

-- ---- texts of digits

pub missing_small : (u : ℕ) → u < 0xD800 → missing (lone_unit_char u) ≡ false
missing_small u h = missing_of (nat_le 0xD800 u && nat_lt u 0xE000) u ∙ go (nat_le 0xD800 u) refl
  where
    go : (b : Bool) → nat_le 0xD800 u ≡ b → missing (lone (b && nat_lt u 0xE000) 0) ≡ false
    go false e = refl
    go true e = absurd (omega (arith, h, leb-true 0xD800 u e))

pub unit_small : (u : ℕ) → u < 0xD800 → nat_lt u 0x1_0000 ≡ true
unit_small u h = lt-ltb u 0x1_0000 (omega (arith, h))

-- a unit below the surrogates
pub small_first : (u : ℕ) (us : List ℕ) → u < 0xD800 → is_paired us ≡ true → is_paired (u ∷ us) ≡ true
small_first u us h e =
    let (units, paired) = and_parts (are_units us) (not (has_unpaired_surrogate us)) e in
    both_true (are_units (u ∷ us)) (not (has_unpaired_surrogate (u ∷ us))) (both_true (nat_lt u 0x1_0000) (are_units us) (unit_small u h) units) (ap not (unit_first u us (missing_small u h) (not_true _ paired)))

glyph_small : (n : ℕ) → digit_glyph false (n % 10) < 0xD800
glyph_small n = go (nat_lt (n % 10) 10)
  where
    go : (b : Bool) → (if b then 48 + n % 10 else 87 + n % 10) < 0xD800
    go true = omega arith
    go false = omega arith

picked : (b : Bool) (s t : List ℕ) → is_paired s ≡ true → is_paired t ≡ true → is_paired (if b then s else t) ≡ true
picked true s t h k = h
picked false s t h k = k

digits_paired : (k n : ℕ) (ds : List ℕ) → is_paired ds ≡ true → is_paired (digits_onto k 10 false n ds) ≡ true
digits_paired zero n ds e = e
digits_paired (suc k) n ds e =
    let first = small_first (digit_glyph false (n % 10)) ds (glyph_small n) e in
    picked (n / 10 == 0) (digit_glyph false (n % 10) ∷ ds) (digits_onto k 10 false (n / 10) (digit_glyph false (n % 10) ∷ ds)) first (digits_paired k (n / 10) (digit_glyph false (n % 10) ∷ ds) first)

nothing_paired : is_paired [] ≡ true
unfolding utf16_chars
nothing_paired = refl

decimal_paired : (n : ℕ) → is_paired (decimal n) ≡ true
unfolding digits
decimal_paired n = digits_paired 64 n [] nothing_paired

pub numeral_paired : (n : ℤ) → is_paired (signed_decimal n) ≡ true
numeral_paired (pos n) = decimal_paired n
numeral_paired (negsuc n) = small_first 45 (decimal (suc n)) (omega arith) (decimal_paired (suc n))

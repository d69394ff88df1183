-- Digits, their values and their units.
use Rattle.std.proofs.Common.{◌≡◌, ℕ, zero, suc, drop, ◌+◌, ◌-◌, ◌*◌, ◌<◌, ◌≤◌, ◌≢◌, List, [], ◌∷◌, ◌++◌, length, get_or, take, refl, sym, ap, ap₂, subst, ◌∙◌, arith, flat_map, ℤ, pos, negsuc}
use Rattle.std.specs.Char.Escape.{encode_utf16}
use Rattle.std.specs.Fmt.{decimal}
use Rattle.std.specs.Int.{IsInRange}
use Rattle.std.specs.Str.{IsAscii}
use Rattle.std.specs.Str.Parse.{AllDigits, digits_value}
use Rattle.std.proofs.lemmas.Fmt.{decimal_injective, decimal_is_IsNumeral, decimal_nonempty, decimal_digit, first_decimal, decimal-digits_value}
use Rattle.std.proofs.lemmas.Int.Digits.{digits_value_more}
use Rattle.std.proofs.lemmas.List.{take_all}
use Rattle.std.proofs.lemmas.Str.{chars-IsAscii, digit_value_digit}
use Rattle.std.proofs.lemmas.Str.Parse.{numerals_by_value, tells_by_index, digit_at, digits_value-take-le}
use Rattle.mini_model.specs.Texts.{units_of}
use Rattle.mini_model.proofs.Units.{encode_utf16-one}
use Rattle.mini_model.specs.Numerals.{max_safe_integer, IsTextOfSafe}

-- ASCII bytes are their own units
flat_map-encode_utf16-ascii : (bs : List ℕ) → IsAscii bs → flat_map encode_utf16 bs ≡ bs
flat_map-encode_utf16-ascii [] ascii = refl
flat_map-encode_utf16-ascii (b ∷ bs) ascii =
    let first : b < 128 = ascii 0 in
    ap₂ ◌++◌ (encode_utf16-one b (omega arith)) (flat_map-encode_utf16-ascii bs (λ i. ascii (suc i)))

pub units_of-ascii : (bs : List ℕ) → IsAscii bs → units_of bs ≡ bs
units_of-ascii bs ascii = ap (flat_map encode_utf16) (chars-IsAscii bs ascii) ∙ flat_map-encode_utf16-ascii bs ascii

-- each of the first i units is a digit
abbrev pub DigitsBelow : List ℕ → ℕ → Type 0
DigitsBelow ds i = (k : ℕ) → k < i → IsInRange 48 57 (get_or ds k 0)

-- no number up to the limit has these digits
abbrev pub IsNoneOf : List ℕ → Type 0
IsNoneOf ds = (n : ℕ) → n ≤ max_safe_integer → ds ≢ decimal n

pub none-empty : (ds : List ℕ) → length ds ≡ 0 → IsNoneOf ds
none-empty ds empty n small is = omega (arith, ap length is, decimal_nonempty n (omega arith))

pub none-leading_zero : (ds : List ℕ) → 1 < length ds → get_or ds 0 0 ≡ 48 → IsNoneOf ds
none-leading_zero ds long lead zero small is =
    let one : length ds ≡ 1 = ap length is ∙ ap length (decimal_digit 0 (omega arith)) in
    omega arith
none-leading_zero ds long lead (suc n) small is =
    let first : get_or ds 0 0 ≡ get_or (decimal (suc n)) 0 0 = ap (λ l. get_or l 0 0) is in
    omega (arith, first_decimal (suc n) (omega arith) (omega arith))

pub none-unit : (ds : List ℕ) (i : ℕ) → i < length ds → ¬ (IsInRange 48 57 (get_or ds i 0)) → IsNoneOf ds
none-unit ds i within apart n small is =
    apart (digit_at ds i (subst (AllDigits 10) (sym is) (decimal_is_IsNumeral n (omega arith)).0.1) within)

pub none-large : (ds : List ℕ) (i : ℕ) → max_safe_integer < digits_value 10 (take i ds) → IsNoneOf ds
none-large ds i large n small is =
    let value : digits_value 10 ds ≡ n = ap (digits_value 10) is ∙ (decimal_is_IsNumeral n (omega arith)).1 in
    omega (arith, digits_value-take-le 10 ds i (omega arith))

-- the value with one more digit
pub value_more : (ds : List ℕ) (i : ℕ) → i < length ds → IsInRange 48 57 (get_or ds i 0) → digits_value 10 (take (i + 1) ds) ≡ digits_value 10 (take i ds) * 10 + (get_or ds i 0 - 48)
value_more ds i within digit = omega (arith, digits_value_more 10 ds i within, digit_value_digit (get_or ds i 0) digit)

-- digits with no zero in front are those of their value
pub whole : (ds : List ℕ) (i n : ℕ) → length ds ≤ i → DigitsBelow ds i → 0 < length ds → (get_or ds 0 0 ≡ 48 → length ds ≡ 1) → n ≡ digits_value 10 (take i ds) → n ≤ max_safe_integer → ds ≡ decimal n
whole ds i n all digits some lead value small =
    let is : n ≡ digits_value 10 ds = value ∙ ap (digits_value 10) (take_all i ds all) in
    sym (ap decimal is ∙ decimal-digits_value (numerals_by_value _ tells_by_index) ds (λ k below. digits k (omega arith)) some lead (omega arith))

-- no safe number has the text of `-` before these digits, where no number above 0 has the digits
pub none-minus : (text : List ℕ) → get_or text 0 0 ≡ 45 → ((n : ℕ) → 0 < n → n ≤ max_safe_integer → drop 1 text ≢ decimal n) → (n : ℤ) → ¬ (IsTextOfSafe text n)
none-minus text minus none (pos n) held =
    let first : get_or text 0 0 ≡ get_or (decimal n) 0 0 = ap (λ l. get_or l 0 0) held.1 in
    let small : n ≤ max_safe_integer = held.0 in
    let digits = (decimal_is_IsNumeral n (omega arith)).0 in
    omega (arith, digit_at (decimal n) 0 digits.1 digits.0)
none-minus text minus none (negsuc n) held = none (suc n) (omega arith) held.0 (ap (drop 1) held.1)

pub none-minus_zero : (ds : List ℕ) → ds ≡ decimal 0 → (n : ℕ) → 0 < n → n ≤ max_safe_integer → ds ≢ decimal n
none-minus_zero ds nought n some small is = omega (arith, decimal_injective 0 n (omega arith) (omega arith) (sym nought ∙ is))

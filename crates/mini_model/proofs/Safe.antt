-- Safe numbers, their texts, and the number that is computed of a text.
use Rattle.std.proofs.Common.{◌≡◌, ℕ, suc, ◌≢◌, Bool, true, false, ◌&&◌, if◌then◌else◌, List, Option, Some, None, MatchOption, get_or, refl, sym, ap, subst, ◌∙◌, arith, ℤ, pos, negsuc, neg_ℤ}
use Rattle.std.specs.Fmt.{decimal, signed_decimal}
use Rattle.std.specs.Str.{bytes_eq}
use Rattle.std.specs.Str.Parse.{signed_digits_value}
use Rattle.std.proofs.lemmas.Bool.{and_parts, and_from, ne_eqb, leb-true, le-leb}
use Rattle.std.proofs.lemmas.Fmt.{decimal_is_IsNumeral, signed_decimal_injective}
use Rattle.std.proofs.lemmas.Slice.Eq.{bytes_eq-Decides}
use Rattle.std.proofs.lemmas.Str.Parse.{digit_at}
use Rattle.mini_model.specs.Numerals.{max_safe_integer, IsSafe, IsTextOfSafe, is_safe, safe_number}

IsSafe-is_safe : (n : ℤ) → is_safe n ≡ true → IsSafe n
IsSafe-is_safe (pos n) safe = leb-true n max_safe_integer safe
IsSafe-is_safe (negsuc n) safe = leb-true (suc n) max_safe_integer safe

is_safe-IsSafe : (n : ℤ) → IsSafe n → is_safe n ≡ true
is_safe-IsSafe (pos n) safe = le-leb n max_safe_integer safe
is_safe-IsSafe (negsuc n) safe = le-leb (suc n) max_safe_integer safe

-- two safe numbers with the same text
pub same_text : (m n : ℤ) → IsSafe m → IsSafe n → signed_decimal m ≡ signed_decimal n → m ≡ n
same_text (pos m) (pos n) safe safe' same = signed_decimal_injective (pos m) (pos n) (omega arith) (omega arith) same
same_text (pos m) (negsuc n) safe safe' same = signed_decimal_injective (pos m) (negsuc n) (omega arith) (omega arith) same
same_text (negsuc m) (pos n) safe safe' same = signed_decimal_injective (negsuc m) (pos n) (omega arith) (omega arith) same
same_text (negsuc m) (negsuc n) safe safe' same = signed_decimal_injective (negsuc m) (negsuc n) (omega arith) (omega arith) same

-- the value of a safe number's text
value_of_text : (n : ℤ) → IsSafe n → signed_digits_value 10 (signed_decimal n) ≡ n
value_of_text (pos n) safe =
    let numeral = decimal_is_IsNumeral n (omega arith) in
    let digit = digit_at (decimal n) 0 numeral.0.1 numeral.0.0 in
    let minus : get_or (decimal n) 0 0 ≢ 45 = omega arith in
    let plus : get_or (decimal n) 0 0 ≢ 43 = omega arith in
    rw (ne_eqb (get_or (decimal n) 0 0) 45 minus, ne_eqb (get_or (decimal n) 0 0) 43 plus) (ap pos numeral.1)
value_of_text (negsuc n) safe = ap (λ m. neg_ℤ (pos m)) (decimal_is_IsNumeral (suc n) (omega arith)).1

-- the computed number has the text
by_test : (text : List ℕ) (v n : ℤ) (b : Bool) → is_safe v && bytes_eq text (signed_decimal v) ≡ b → (if b then Some v else None) ≡ Some n → IsTextOfSafe text n
by_test text v n true test some =
    let parts = and_parts (is_safe v) (bytes_eq text (signed_decimal v)) test in
    let is : v ≡ n = cc in
    subst (IsTextOfSafe text) is (IsSafe-is_safe v parts.0, (bytes_eq-Decides text (signed_decimal v)).0 parts.1)
by_test text v n false test some = cc

pub text_of_number : (text : List ℕ) (n : ℤ) → safe_number text ≡ Some n → IsTextOfSafe text n
text_of_number text n some = by_test text (signed_digits_value 10 text) n (is_safe (signed_digits_value 10 text) && bytes_eq text (signed_decimal (signed_digits_value 10 text))) refl some

-- and the number that has the text is the computed one
pub number_of_text : (text : List ℕ) (n : ℤ) → IsTextOfSafe text n → safe_number text ≡ Some n
number_of_text text n held =
    let value : signed_digits_value 10 text ≡ n = ap (signed_digits_value 10) held.1 ∙ value_of_text n held.0 in
    let test : is_safe n && bytes_eq text (signed_decimal n) ≡ true = and_from _ _ (is_safe-IsSafe n held.0) ((bytes_eq-Decides text (signed_decimal n)).1 held.1) in
    let at : ℤ → Option ℤ = λ m. if is_safe m && bytes_eq text (signed_decimal m) then Some m else None in
    ap at value ∙ ap (λ b. if b then Some n else None) test

-- a text that no safe number has
no_number : (text : List ℕ) → ((n : ℤ) → ¬ (IsTextOfSafe text n)) → (o : Option ℤ) → safe_number text ≡ o → None ≡ safe_number text
no_number text none None is = sym is
no_number text none (Some n) is = absurd (none n (text_of_number text n is))

pub is_safe_number : (text : List ℕ) (r : Option ℤ) → MatchOption r ((n : ℤ) → ¬ (IsTextOfSafe text n)) (IsTextOfSafe text) → r ≡ safe_number text
is_safe_number text None none = no_number text none (safe_number text) refl
is_safe_number text (Some n) held = sym (number_of_text text n held)

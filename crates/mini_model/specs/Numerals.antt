-- The texts of whole numbers, and the numbers that texts stand for.
use Rattle.std.specs.Prelude.{◌≡◌, ℕ, suc, ◌≤◌, nat_le, Bool, ◌&&◌, if◌then◌else◌, List, Option, Some, None, ℤ, pos, negsuc}
use Rattle.std.specs.Fmt.{signed_decimal}
use Rattle.std.specs.Str.{bytes_eq}
use Rattle.std.specs.Str.Parse.{signed_digits_value}

-- 2 ^ 53 - 1, the greatest n for which n and n + 1 are both exactly Numbers (ECMA-262,
-- Number.MAX_SAFE_INTEGER)
abbrev pub max_safe_integer : ℕ
max_safe_integer = 9_007_199_254_740_991

-- from -(2 ^ 53 - 1) to 2 ^ 53 - 1 (ECMA-262, Number.MIN_SAFE_INTEGER and Number.MAX_SAFE_INTEGER)
abbrev pub IsSafe : ℤ → Type 0
IsSafe (pos n) = n ≤ max_safe_integer
IsSafe (negsuc n) = suc n ≤ max_safe_integer

-- the text is that of the safe number: its decimal digits with no zero in front, after `-` where it
-- is below 0 (ECMA-262, Number::toString at radix 10)
abbrev pub IsTextOfSafe : List ℕ → ℤ → Type 0
IsTextOfSafe text n = IsSafe n × (text ≡ signed_decimal n)

-- the same test of the limit, as a computation
abbrev pub is_safe : ℤ → Bool
is_safe (pos n) = nat_le n max_safe_integer
is_safe (negsuc n) = nat_le (suc n) max_safe_integer

-- the number that a sign and digits write, where it is safe and the text is its text (ECMA-262,
-- CanonicalNumericIndexString, whose last steps compare the text with that of the number; `-0` is
-- no such text)
abbrev pub safe_number : List ℕ → Option ℤ
safe_number text =
    let n = signed_digits_value 10 text in
    if is_safe n && bytes_eq text (signed_decimal n) then Some n else None

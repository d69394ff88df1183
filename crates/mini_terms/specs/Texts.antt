-- Texts and other values beside one another: their order and their equality, and the number of a
-- text, which is read as long as it is safe.
use Rattle.std.specs.Prelude.{ℕ, ℤ, ◌+◌, ◌*◌, ◌<◌, nat_lt, Bool, true, false, not, List, [], ◌∷◌, Option, Some, None}
use Rattle.mini_model.specs.declared.operator.BinaryOperator.{BinaryOperator}
use Rattle.mini_model.specs.declared.operator.BinaryOperator.TheVariants as binary
use Rattle.mini_model.specs.Weight.{same_text}
use Rattle.mini_laws.specs.Value.{Value, String, choose}
use Rattle.mini_laws.specs.Conversion.{digit, base_of, read_based, to_number}
use Rattle.mini_laws.specs.Operators.{is_text_less, same_number}
use Rattle.mini_terms.specs.Const.{made}

abbrev pub capped : ℕ → Option ℕ
capped n = choose (nat_lt n 9_007_199_254_740_992) (Some n) None

abbrev pub IsSafe : Option ℕ → Type 0
IsSafe (Some n) = n < 9_007_199_254_740_992
IsSafe None = Unit {0}

abbrev pub safe_of : Option ℕ → Option ℕ
safe_of (Some n) = capped n
safe_of None = None

-- one digit more
abbrev pub with_digit : ℕ → Option ℕ → ℕ → Option ℕ
with_digit base (Some n) c = choose (nat_lt (digit c) base) (capped (n * base + digit c)) None
with_digit base None c = None

abbrev pub read_on : ℕ → Option ℕ → List ℕ → Option ℕ
read_on base o [] = o
read_on base o (c ∷ cs) = read_on base (with_digit base o c) cs

-- what stands after a `0`
abbrev pub read_zero : List ℕ → Option ℤ
read_zero [] = None
read_zero (x ∷ cs) = made (read_based (base_of x) x cs)

-- ---- order

abbrev pub is_sum : BinaryOperator → Bool
is_sum binary.Addition = true
is_sum o = false

abbrev pub order_of_texts : BinaryOperator → List ℕ → List ℕ → Option Bool
order_of_texts binary.LessThan s t = Some (is_text_less s t)
order_of_texts binary.GreaterThan s t = Some (is_text_less t s)
order_of_texts binary.LessEqualThan s t = Some (not (is_text_less t s))
order_of_texts binary.GreaterEqualThan s t = Some (not (is_text_less s t))
order_of_texts o s t = None

abbrev pub order_of : BinaryOperator → Value → Value → Option Bool
order_of o (String s) (String t) = order_of_texts o s t
order_of o v u = None

-- ---- equality

abbrev pub equal_numbers : Option ℤ → Option ℤ → Option Bool
equal_numbers (Some m) (Some n) = Some (same_number m n)
equal_numbers (Some m) None = None
equal_numbers None o = None

-- of values that are neither undefined nor null
abbrev pub equal_present : Value → Value → Option Bool
equal_present (String s) (String t) = Some (same_text s t)
equal_present v u = equal_numbers (made (to_number v)) (made (to_number u))

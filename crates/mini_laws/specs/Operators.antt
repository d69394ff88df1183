-- Operators on primitive values: what is not exact, -0, or no whole safe number is outside the
-- model.
use Rattle.std.specs.Prelude.{ℕ, zero, suc, ◌+◌, ◌-◌, ◌*◌, ◌/◌, ◌%◌, ◌^◌, nat_le, nat_lt, nat_eq, nat_abs, bit_and, bit_or, bit_xor, Bool, true, false, not, ◌&&◌, ◌||◌, List, [], ◌∷◌, ◌++◌, codes, Option, Some, None, ℤ, pos, negsuc, ◌+ℤ◌, ◌-ℤ◌}
use Rattle.mini_model.specs.declared.operator.BinaryOperator.{BinaryOperator}
use Rattle.mini_model.specs.declared.operator.BinaryOperator.TheVariants as binary
use Rattle.mini_model.specs.declared.operator.UnaryOperator.{UnaryOperator}
use Rattle.mini_model.specs.declared.operator.UnaryOperator.TheVariants as unary
use Rattle.mini_model.specs.Weight.{same_text}
use Rattle.mini_laws.specs.Value.{Value, Undefined, Null, Boolean, Number, String, Symbol, Object, choose, is_nullish}
use Rattle.mini_laws.specs.Conversion.{Made, makes, raises, outside, both, to_text, to_number, is_safe, signed}

-- Numbers (ECMA-262, "The Number Type")

abbrev pub number : Made ℤ → Made Value
number (makes n) = makes (Number n)
number raises = raises
number outside = outside

abbrev pub safe_number : ℤ → Made Value
safe_number n = choose (is_safe n) (makes (Number n)) outside

abbrev pub is_negative : ℤ → Bool
is_negative (pos n) = false
is_negative (negsuc n) = true

abbrev pub differ : Bool → Bool → Bool
differ true b = not b
differ false b = b

-- ECMA-262, "Number::multiply"
abbrev pub product : ℤ → ℤ → Made Value
product a b = number (signed (differ (is_negative a) (is_negative b)) (nat_abs a * nat_abs b))

-- ECMA-262, "Number::divide"
abbrev pub quotient : ℤ → ℤ → Made Value
quotient a (pos zero) = outside
quotient a b = choose (nat_eq (nat_abs a % nat_abs b) 0) (number (signed (differ (is_negative a) (is_negative b)) (nat_abs a / nat_abs b))) outside

-- ECMA-262, "Number::remainder": the sign is that of the left side
abbrev pub remainder : ℤ → ℤ → Made Value
remainder a (pos zero) = outside
remainder a b = number (signed (is_negative a) (nat_abs a % nat_abs b))

abbrev pub is_odd : ℕ → Bool
is_odd n = nat_eq (n % 2) 1

-- of a base other than 0, 1 and -1 no power past the 53rd is safe
abbrev pub small_exponent : ℕ → ℕ
small_exponent n = choose (nat_lt n 54) n (n % 2 + 2)

-- ECMA-262, "Number::exponentiate": with a negative exponent only 1 and -1 have powers that are
-- whole
abbrev pub power : ℤ → ℤ → Made Value
power a (pos n) = choose (nat_le (nat_abs a) 1 || nat_lt n 54) (number (signed (is_negative a && is_odd n) (nat_abs a ^ small_exponent n))) outside
power a (negsuc n) = choose (nat_eq (nat_abs a) 1) (number (signed (is_negative a && is_odd (suc n)) 1)) outside

-- ECMA-262, "ToUint32" and "ToInt32"
abbrev pub modulo_32 : ℤ → ℕ
modulo_32 (pos n) = n % 4_294_967_296
modulo_32 (negsuc n) = 4_294_967_295 - n % 4_294_967_296

abbrev pub signed_32 : ℕ → Made Value
signed_32 n = choose (nat_lt n 2_147_483_648) (makes (Number (pos n))) (makes (Number (negsuc (4_294_967_295 - n))))

-- two to the shift count, which is modulo 32 (ECMA-262, "Number::leftShift")
abbrev pub two_to : ℤ → ℕ
two_to b = 2 ^ (modulo_32 b % 32)

abbrev pub shifted_right : ℕ → ℕ → Made Value
shifted_right n k = choose (nat_lt n 2_147_483_648) (makes (Number (pos (n / k)))) (makes (Number (negsuc ((4_294_967_295 - n) / k))))

-- ECMA-262, "Number::lessThan"
abbrev pub is_less : ℤ → ℤ → Bool
is_less (pos m) (pos n) = nat_lt m n
is_less (pos m) (negsuc n) = false
is_less (negsuc m) (pos n) = true
is_less (negsuc m) (negsuc n) = nat_lt n m

-- ECMA-262, "ApplyStringOrNumericBinaryOperator" and "IsLessThan", of two numbers
abbrev pub of_numbers : BinaryOperator → ℤ → ℤ → Made Value
of_numbers binary.Addition a b = safe_number (a +ℤ b)
of_numbers binary.Subtraction a b = safe_number (a -ℤ b)
of_numbers binary.Multiplication a b = product a b
of_numbers binary.Division a b = quotient a b
of_numbers binary.Remainder a b = remainder a b
of_numbers binary.Exponential a b = power a b
of_numbers binary.BitwiseAnd a b = signed_32 (bit_and (modulo_32 a) (modulo_32 b))
of_numbers binary.BitwiseOr a b = signed_32 (bit_or (modulo_32 a) (modulo_32 b))
of_numbers binary.BitwiseXor a b = signed_32 (bit_xor (modulo_32 a) (modulo_32 b))
of_numbers binary.ShiftLeft a b = signed_32 (modulo_32 a * two_to b % 4_294_967_296)
of_numbers binary.ShiftRight a b = shifted_right (modulo_32 a) (two_to b)
of_numbers binary.ShiftRightZeroFill a b = makes (Number (pos (modulo_32 a / two_to b)))
of_numbers binary.LessThan a b = makes (Boolean (is_less a b))
of_numbers binary.GreaterThan a b = makes (Boolean (is_less b a))
of_numbers binary.LessEqualThan a b = makes (Boolean (not (is_less b a)))
of_numbers binary.GreaterEqualThan a b = makes (Boolean (not (is_less a b)))
of_numbers _ a b = outside

-- Texts

-- ECMA-262, "IsLessThan", of two Strings: by units
abbrev pub is_text_less : List ℕ → List ℕ → Bool
is_text_less [] [] = false
is_text_less [] (y ∷ ys) = true
is_text_less (x ∷ xs) [] = false
is_text_less (x ∷ xs) (y ∷ ys) = choose (nat_eq x y) (is_text_less xs ys) (nat_lt x y)

abbrev pub joined : Made (List ℕ) → Made (List ℕ) → Made Value
joined s t = both s t (λ a b. makes (String (a ++ b)))

abbrev pub by_numbers : BinaryOperator → Value → Value → Made Value
by_numbers o a b = both (to_number a) (to_number b) (of_numbers o)

-- an operator of two primitive values, other than those of equality
abbrev pub of_primitives : BinaryOperator → Value → Value → Made Value
of_primitives binary.Addition (String s) b = joined (makes s) (to_text b)
of_primitives binary.Addition a (String t) = joined (to_text a) (makes t)
of_primitives binary.LessThan (String s) (String t) = makes (Boolean (is_text_less s t))
of_primitives binary.GreaterThan (String s) (String t) = makes (Boolean (is_text_less t s))
of_primitives binary.LessEqualThan (String s) (String t) = makes (Boolean (not (is_text_less t s)))
of_primitives binary.GreaterEqualThan (String s) (String t) = makes (Boolean (not (is_text_less s t)))
of_primitives o a b = by_numbers o a b

-- ECMA-262, "Unary - Operator", "Unary + Operator", "Bitwise NOT Operator"
abbrev pub negated : ℤ → Made Value
negated (pos zero) = outside
negated (pos (suc n)) = makes (Number (negsuc n))
negated (negsuc n) = makes (Number (pos (suc n)))

abbrev pub of_number : UnaryOperator → ℤ → Made Value
of_number unary.UnaryNegation n = negated n
of_number unary.UnaryPlus n = makes (Number n)
of_number unary.BitwiseNot n = signed_32 (4_294_967_295 - modulo_32 n)
of_number _ n = outside

-- Equality

abbrev pub same_number : ℤ → ℤ → Bool
same_number (pos m) (pos n) = nat_eq m n
same_number (negsuc m) (negsuc n) = nat_eq m n
same_number _ _ = false

abbrev pub same_boolean : Bool → Bool → Bool
same_boolean true b = b
same_boolean false b = not b

-- ECMA-262, "IsStrictlyEqual"
abbrev pub strictly_equal : Value → Value → Bool
strictly_equal Undefined Undefined = true
strictly_equal Null Null = true
strictly_equal (Boolean a) (Boolean b) = same_boolean a b
strictly_equal (Number m) (Number n) = same_number m n
strictly_equal (String s) (String t) = same_text s t
strictly_equal (Symbol m) (Symbol n) = nat_eq m n
strictly_equal (Object m f) (Object n g) = nat_eq m n
strictly_equal _ _ = false

abbrev pub equals_number : Made ℤ → ℤ → Option Bool
equals_number (makes m) n = Some (same_number m n)
equals_number _ n = None

-- a boolean counts as 0 or 1
abbrev pub counted : Value → Value
counted (Boolean true) = Number (pos 1)
counted (Boolean false) = Number (pos 0)
counted v = v

abbrev pub equal_counted : Value → Value → Option Bool
equal_counted (Number m) (String s) = equals_number (to_number (String s)) m
equal_counted (String s) (Number m) = equals_number (to_number (String s)) m
equal_counted a b = Some (strictly_equal a b)

-- ECMA-262, "IsLooselyEqual", of primitives: None is outside
abbrev pub loosely_equal : Value → Value → Option Bool
loosely_equal a b = choose (is_nullish a) (Some (is_nullish b)) (choose (is_nullish b) (Some false) (equal_counted (counted a) (counted b)))

-- ECMA-262, "The typeof Operator"
abbrev pub type_text : Value → List ℕ
type_text Undefined = codes "undefined"
type_text Null = codes "object"
type_text (Boolean b) = codes "boolean"
type_text (Number n) = codes "number"
type_text (String s) = codes "string"
type_text (Symbol n) = codes "symbol"
type_text (Object n true) = codes "function"
type_text (Object n false) = codes "object"

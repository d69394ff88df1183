-- What operators make.
use Rattle.std.proofs.Common.{◌≡◌, ℕ, zero, suc, Bool, true, false, List, refl, sym, true≢false}
use Rattle.std.specs.Prelude.{ℤ, pos, negsuc, ◌&&◌, ◌||◌, ◌-◌, ◌*◌, ◌+ℤ◌, ◌-ℤ◌, ◌++◌, ◌/◌, ◌%◌, ◌^◌, nat_eq, nat_lt, nat_le, nat_abs}
use Rattle.mini_model.specs.declared.operator.BinaryOperator.{BinaryOperator}
use Rattle.mini_model.specs.declared.operator.BinaryOperator.TheVariants as binary
use Rattle.mini_model.specs.declared.operator.UnaryOperator.{UnaryOperator}
use Rattle.mini_model.specs.declared.operator.UnaryOperator.TheVariants as unary
use Rattle.mini_laws.specs.Value.{Value, Number, String, choose}
use Rattle.mini_laws.specs.Conversion.{Made, makes, raises, outside, both, to_text, to_number, is_safe, signed}
use Rattle.mini_laws.specs.Operators.{differ, is_negative, is_odd, small_exponent, modulo_32, two_to, number, safe_number, quotient, remainder, power, signed_32, shifted_right, of_numbers, by_numbers, of_primitives, of_number}
use Rattle.mini_terms.specs.Const.{of_operand}
use Rattle.mini_terms.specs.Kind.{Kind, IsUndefined, IsNull, IsBoolean, IsNumber, IsString, is_primitive, is_string, is_added, number_if, binary_kind, OfKind}

-- of what is made, if it is
unfoldable pub MadeIs : {A : Type 0} → (A → Type 0) → Made A → Type 0
MadeIs P (makes a) = P a
MadeIs P raises = Unit {0}
MadeIs P outside = Unit {0}

abbrev pub Is : Kind → Made Value → Type 0
Is k m = MadeIs (OfKind k) m

pub made_all : {A : Type 0} (P : A → Type 0) → ((a : A) → P a) → (m : Made A) → MadeIs P m
unfolding MadeIs
made_all P f (makes a) = f a
made_all P f raises = tt
made_all P f outside = tt

made_choose : {A : Type 0} (P : A → Type 0) (b : Bool) (m n : Made A) → MadeIs P m → MadeIs P n → MadeIs P (choose b m n)
unfolding MadeIs
made_choose P true m n p q = p
made_choose P false m n p q = q

pub made_both : {A B C : Type 0} (P : C → Type 0) (m : Made A) (n : Made B) (f : A → B → Made C) → ((a : A) (b : B) → MadeIs P (f a b)) → MadeIs P (both m n f)
unfolding MadeIs
made_both P (makes a) (makes b) f h = h a b
made_both P (makes a) raises f h = tt
made_both P (makes a) outside f h = tt
made_both P raises n f h = tt
made_both P outside n f h = tt

number_is : (m : Made ℤ) → Is IsNumber (number m)
unfolding MadeIs
number_is (makes n) = tt
number_is raises = tt
number_is outside = tt

safe_is : (n : ℤ) → Is IsNumber (safe_number n)
unfolding MadeIs
safe_is n = made_choose (OfKind IsNumber) (is_safe n) (makes (Number n)) outside tt tt

signed_32_is : (n : ℕ) → Is IsNumber (signed_32 n)
unfolding MadeIs
signed_32_is n = made_choose (OfKind IsNumber) (nat_lt n 2_147_483_648) (makes (Number (pos n))) (makes (Number (negsuc (4_294_967_295 - n)))) tt tt

number_or : (b : Bool) (m : Made ℤ) → Is IsNumber (choose b (number m) outside)
unfolding MadeIs
number_or b m = made_choose (OfKind IsNumber) b (number m) outside (number_is m) tt

quotient_is : (a b : ℤ) → Is IsNumber (quotient a b)
unfolding MadeIs
quotient_is a (pos zero) = tt
quotient_is a (pos (suc n)) = number_or (nat_eq (nat_abs a % suc n) 0) (signed (differ (is_negative a) false) (nat_abs a / suc n))
quotient_is a (negsuc n) = number_or (nat_eq (nat_abs a % suc n) 0) (signed (differ (is_negative a) true) (nat_abs a / suc n))

remainder_is : (a b : ℤ) → Is IsNumber (remainder a b)
unfolding MadeIs
remainder_is a (pos zero) = tt
remainder_is a (pos (suc n)) = number_is (signed (is_negative a) (nat_abs a % suc n))
remainder_is a (negsuc n) = number_is (signed (is_negative a) (nat_abs a % suc n))

power_is : (a b : ℤ) → Is IsNumber (power a b)
unfolding MadeIs
power_is a (pos n) = number_or (nat_le (nat_abs a) 1 || nat_lt n 54) (signed (is_negative a && is_odd n) (nat_abs a ^ small_exponent n))
power_is a (negsuc n) = number_or (nat_eq (nat_abs a) 1) (signed (is_negative a && is_odd (suc n)) 1)

shifted_is : (n k : ℕ) → Is IsNumber (shifted_right n k)
unfolding MadeIs
shifted_is n k = made_choose (OfKind IsNumber) (nat_lt n 2_147_483_648) (makes (Number (pos (n / k)))) (makes (Number (negsuc ((4_294_967_295 - n) / k)))) tt tt

-- what an operator of numbers gives
abbrev pub operator_kind : BinaryOperator → Kind
operator_kind o = binary_kind o IsNumber IsNumber

pub of_numbers_is : (o : BinaryOperator) (a b : ℤ) → Is (operator_kind o) (of_numbers o a b)
unfolding MadeIs
of_numbers_is binary.Addition a b = safe_is (a +ℤ b)
of_numbers_is binary.Subtraction a b = safe_is (a -ℤ b)
of_numbers_is binary.Multiplication a b = number_is (signed (differ (is_negative a) (is_negative b)) (nat_abs a * nat_abs b))
of_numbers_is binary.Division a b = quotient_is a b
of_numbers_is binary.Remainder a b = remainder_is a b
of_numbers_is binary.Exponential a b = power_is a b
of_numbers_is binary.BitwiseAnd a b = signed_32_is _
of_numbers_is binary.BitwiseOr a b = signed_32_is _
of_numbers_is binary.BitwiseXor a b = signed_32_is _
of_numbers_is binary.ShiftLeft a b = signed_32_is _
of_numbers_is binary.ShiftRight a b = shifted_is (modulo_32 a) (two_to b)
of_numbers_is o a b = tt

by_numbers_is : (o : BinaryOperator) (x y : Value) → Is (operator_kind o) (by_numbers o x y)
by_numbers_is o x y = made_both (OfKind (operator_kind o)) (to_number x) (to_number y) (of_numbers o) (of_numbers_is o)

relation_is : (o : BinaryOperator) (x y : Value) → Is (operator_kind o) (by_numbers o x y) → (o ≡ binary.Addition → ⊥) → Is (operator_kind o) (of_primitives o x y)
unfolding MadeIs
relation_is binary.Addition x y h n = absurd (n refl)
relation_is binary.LessThan (String s) (String t) h n = tt
relation_is binary.GreaterThan (String s) (String t) h n = tt
relation_is binary.LessEqualThan (String s) (String t) h n = tt
relation_is binary.GreaterEqualThan (String s) (String t) h n = tt
relation_is o x y h n = h

pub of_primitives_is : (o : BinaryOperator) (x y : Value) → (o ≡ binary.Addition → ⊥) → Is (operator_kind o) (of_primitives o x y)
of_primitives_is o x y n = relation_is o x y (by_numbers_is o x y) n

-- `+`

-- of a kind, where that is primitive
abbrev pub Primitive : Kind → Value → Type 0
Primitive k x = is_primitive k ≡ true → OfKind k x

abbrev NoString : Value → Type 0
NoString (String s) = ⊥
NoString x = Unit {0}

pub added_number : (x y : Value) → NoString x → NoString y → Is IsNumber (of_primitives binary.Addition x y)
added_number (String s) y h k = absurd h
added_number x (String t) h k = absurd k
added_number x y h k = by_numbers_is binary.Addition x y

pub text_added : (s : List ℕ) (y : Value) → Is IsString (of_primitives binary.Addition (String s) y)
unfolding MadeIs
text_added s y = made_both (OfKind IsString) (makes s) (to_text y) (λ a b. makes (String (a ++ b))) (λ a b. tt)

pub added_text : (x : Value) (t : List ℕ) → Is IsString (of_primitives binary.Addition x (String t))
unfolding MadeIs
added_text (String s) t = tt
added_text x t = made_both (OfKind IsString) (to_text x) (makes t) (λ a b. makes (String (a ++ b))) (λ a b. tt)

text_left : (j : Kind) (x y : Value) → is_string j ≡ true → Primitive j x → Is IsString (of_primitives binary.Addition x y)
text_left IsString (String s) y h p = text_added s y
text_left IsString x y h p = absurd (p refl)
text_left j x y h p = absurd (true≢false (sym h))

text_right : (k : Kind) (x y : Value) → is_string k ≡ true → Primitive k y → Is IsString (of_primitives binary.Addition x y)
text_right IsString x (String t) h p = added_text x t
text_right IsString x y h p = absurd (p refl)
text_right k x y h p = absurd (true≢false (sym h))

no_string : (j : Kind) (x : Value) → is_added j ≡ true → Primitive j x → NoString x
no_string IsUndefined (String s) h p = p refl
no_string IsNull (String s) h p = p refl
no_string IsBoolean (String s) h p = p refl
no_string IsNumber (String s) h p = p refl
no_string j (String s) h p = absurd (true≢false (sym h))
no_string j x h p = tt

pub and_left : (b c : Bool) → b && c ≡ true → b ≡ true
and_left true c h = refl
and_left false c h = h

pub and_right : (b c : Bool) → b && c ≡ true → c ≡ true
and_right true c h = h
and_right false c h = absurd (true≢false (sym h))

pub added_is : (j k : Kind) (x y : Value) → Primitive j x → Primitive k y → Is (binary_kind binary.Addition j k) (of_primitives binary.Addition x y)
added_is j k x y p q = go (is_string j) (is_string k) (is_added j && is_added k) refl refl refl
  where
    go : (a b c : Bool) → is_string j ≡ a → is_string k ≡ b → is_added j && is_added k ≡ c → Is (choose (a || b) IsString (number_if c)) (of_primitives binary.Addition x y)
    go true b c f g h = text_left j x y f p
    go false true c f g h = text_right k x y g q
    go false false true f g h = added_number x y (no_string j x (and_left _ _ h) p) (no_string k y (and_right (is_added j) _ h) q)
    go false false false f g h = made_all _ (λ v. tt) _

pub of_number_is : (o : UnaryOperator) (n : ℤ) → Is IsNumber (of_number o n)
unfolding MadeIs
of_number_is unary.UnaryNegation (pos zero) = tt
of_number_is unary.UnaryNegation (pos (suc n)) = tt
of_number_is unary.UnaryNegation (negsuc n) = tt
of_number_is unary.UnaryPlus n = tt
of_number_is unary.BitwiseNot n = signed_32_is _
of_number_is o n = tt

pub operand_is : (o : UnaryOperator) (m : Made ℤ) → Is IsNumber (of_operand o m)
unfolding MadeIs
operand_is o raises = tt
operand_is o outside = tt
operand_is o (makes n) = of_number_is o n

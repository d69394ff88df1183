-- What operators make of primitive values raises nothing.
use Rattle.std.proofs.Common.{◌≡◌, ℕ, zero, suc, Bool, true, false, List, [], ◌∷◌, Option, Some, None, sym, true≢false}
use Rattle.std.specs.Prelude.{ℤ, pos, negsuc, ◌&&◌, ◌||◌, ◌-◌, ◌*◌, ◌+ℤ◌, ◌-ℤ◌, ◌++◌, ◌/◌, ◌%◌, ◌^◌, nat_eq, nat_lt, nat_le, nat_abs, bit_and, bit_or, bit_xor}
use Rattle.mini_model.specs.declared.operator.BinaryOperator.{BinaryOperator}
use Rattle.mini_model.specs.declared.operator.BinaryOperator.TheVariants as binary
use Rattle.mini_model.specs.declared.operator.UnaryOperator.{UnaryOperator}
use Rattle.mini_model.specs.declared.operator.UnaryOperator.TheVariants as unary
use Rattle.mini_laws.specs.Value.{Value, Undefined, Null, Boolean, Number, String, Symbol, Object, choose}
use Rattle.mini_laws.specs.Conversion.{Made, makes, raises, outside, both, to_text, to_number, is_safe, signed, read_signed, read_based, read_trimmed, read_digits, read_number, base_of, trimmed}
use Rattle.mini_laws.specs.Operators.{differ, is_negative, is_odd, small_exponent, modulo_32, two_to, number, safe_number, quotient, remainder, power, signed_32, shifted_right, of_numbers, by_numbers, of_primitives, joined, of_number}
use Rattle.mini_terms.specs.Const.{of_operand}
use Rattle.mini_terms.specs.Kind.{Kind, IsObject, Undetermined, is_primitive, OfKind}

unfoldable pub Fine : {A : Type 0} → Made A → Type 0
Fine (makes a) = Unit {0}
Fine raises = ⊥
Fine outside = Unit {0}

-- undefined, null, a boolean, a number or a text
abbrev pub IsPrimitive : Value → Type 0
IsPrimitive (Symbol n) = ⊥
IsPrimitive (Object n f) = ⊥
IsPrimitive v = Unit {0}

pub primitive_of : (k : Kind) (v : Value) → is_primitive k ≡ true → OfKind k v → IsPrimitive v
primitive_of IsObject v h p = absurd (true≢false (sym h))
primitive_of Undetermined v h p = absurd (true≢false (sym h))
primitive_of k (Symbol n) h p = absurd p
primitive_of k (Object n f) h p = absurd p
primitive_of k v h p = tt

fine_makes : {A : Type 0} (a : A) → Fine (makes a)
unfolding Fine
fine_makes a = tt

fine_outside : Fine {A = Value} outside
unfolding Fine
fine_outside = tt

fine_choose : {A : Type 0} (b : Bool) (m n : Made A) → Fine m → Fine n → Fine (choose b m n)
fine_choose true m n p q = p
fine_choose false m n p q = q

fine_both : {A B C : Type 0} (m : Made A) (n : Made B) (f : A → B → Made C) → Fine m → Fine n → ((a : A) (b : B) → Fine (f a b)) → Fine (both m n f)
unfolding Fine
fine_both (makes a) (makes b) f p q h = h a b
fine_both (makes a) raises f p q h = q
fine_both (makes a) outside f p q h = tt
fine_both raises n f p q h = p
fine_both outside n f p q h = tt

fine_signed : (b : Bool) (n : ℕ) → Fine (signed b n)
unfolding Fine
fine_signed true zero = tt
fine_signed true (suc n) = fine_choose (is_safe (negsuc n)) (makes (negsuc n)) outside tt tt
fine_signed false n = fine_choose (is_safe (pos n)) (makes (pos n)) outside tt tt

fine_number : (m : Made ℤ) → Fine m → Fine (number m)
unfolding Fine
fine_number (makes n) p = tt
fine_number raises p = p
fine_number outside p = tt

fine_signed_number : (b : Bool) (n : ℕ) → Fine (number (signed b n))
fine_signed_number b n = fine_number (signed b n) (fine_signed b n)

fine_or : (b c : Bool) (n : ℕ) → Fine (choose b (number (signed c n)) outside)
fine_or b c n = fine_choose b (number (signed c n)) outside (fine_signed_number c n) fine_outside

fine_safe : (n : ℤ) → Fine (safe_number n)
fine_safe n = fine_choose (is_safe n) (makes (Number n)) outside (fine_makes (Number n)) fine_outside

fine_32 : (n : ℕ) → Fine (signed_32 n)
fine_32 n = fine_choose (nat_lt n 2_147_483_648) (makes (Number (pos n))) (makes (Number (negsuc (4_294_967_295 - n)))) (fine_makes (Number (pos n))) (fine_makes (Number (negsuc (4_294_967_295 - n))))

fine_shifted : (n k : ℕ) → Fine (shifted_right n k)
unfolding Fine
fine_shifted n k = fine_choose (nat_lt n 2_147_483_648) (makes (Number (pos (n / k)))) (makes (Number (negsuc ((4_294_967_295 - n) / k)))) tt tt

fine_quotient : (a b : ℤ) → Fine (quotient a b)
fine_quotient a (pos zero) = fine_outside
fine_quotient a (pos (suc n)) = fine_or (nat_eq (nat_abs a % suc n) 0) (differ (is_negative a) false) (nat_abs a / suc n)
fine_quotient a (negsuc n) = fine_or (nat_eq (nat_abs a % suc n) 0) (differ (is_negative a) true) (nat_abs a / suc n)

fine_remainder : (a b : ℤ) → Fine (remainder a b)
fine_remainder a (pos zero) = fine_outside
fine_remainder a (pos (suc n)) = fine_signed_number (is_negative a) (nat_abs a % suc n)
fine_remainder a (negsuc n) = fine_signed_number (is_negative a) (nat_abs a % suc n)

fine_power : (a b : ℤ) → Fine (power a b)
unfolding Fine
fine_power a (pos n) = fine_or (nat_le (nat_abs a) 1 || nat_lt n 54) (is_negative a && is_odd n) (nat_abs a ^ small_exponent n)
fine_power a (negsuc n) = fine_or (nat_eq (nat_abs a) 1) (is_negative a && is_odd (suc n)) 1

pub fine_numbers : (o : BinaryOperator) (a b : ℤ) → Fine (of_numbers o a b)
unfolding Fine
fine_numbers binary.Addition a b = fine_safe (a +ℤ b)
fine_numbers binary.Subtraction a b = fine_safe (a -ℤ b)
fine_numbers binary.Multiplication a b = fine_signed_number (differ (is_negative a) (is_negative b)) (nat_abs a * nat_abs b)
fine_numbers binary.Division a b = fine_quotient a b
fine_numbers binary.Remainder a b = fine_remainder a b
fine_numbers binary.Exponential a b = fine_power a b
fine_numbers binary.BitwiseAnd a b = fine_32 (bit_and (modulo_32 a) (modulo_32 b))
fine_numbers binary.BitwiseOr a b = fine_32 (bit_or (modulo_32 a) (modulo_32 b))
fine_numbers binary.BitwiseXor a b = fine_32 (bit_xor (modulo_32 a) (modulo_32 b))
fine_numbers binary.ShiftLeft a b = fine_32 (modulo_32 a * two_to b % 4_294_967_296)
fine_numbers binary.ShiftRight a b = fine_shifted (modulo_32 a) (two_to b)
fine_numbers o a b = tt

fine_read_signed : (b : Bool) (n : Option ℕ) → Fine (read_signed b n)
unfolding Fine
fine_read_signed b (Some n) = fine_signed b n
fine_read_signed b None = tt

fine_based : (b x : ℕ) (cs : List ℕ) → Fine (read_based b x cs)
fine_based zero x cs = fine_read_signed false (read_digits 10 0 (x ∷ cs))
fine_based (suc b) x cs = fine_read_signed false (read_number (suc b) cs)

fine_trimmed : (s : List ℕ) → Fine (read_trimmed s)
fine_trimmed [] = fine_makes (pos 0)
fine_trimmed (c ∷ []) = fine_read_signed false (read_number 10 (c ∷ []))
fine_trimmed (c ∷ (x ∷ cs)) =
    fine_choose (nat_eq c 43) (read_signed false (read_number 10 (x ∷ cs))) (choose (nat_eq c 45) (read_signed true (read_number 10 (x ∷ cs))) (choose (nat_eq c 48) (read_based (base_of x) x cs) (read_signed false (read_number 10 (c ∷ (x ∷ cs)))))) (fine_read_signed false (read_number 10 (x ∷ cs)))
    (fine_choose (nat_eq c 45) (read_signed true (read_number 10 (x ∷ cs))) (choose (nat_eq c 48) (read_based (base_of x) x cs) (read_signed false (read_number 10 (c ∷ (x ∷ cs))))) (fine_read_signed true (read_number 10 (x ∷ cs)))
    (fine_choose (nat_eq c 48) (read_based (base_of x) x cs) (read_signed false (read_number 10 (c ∷ (x ∷ cs)))) (fine_based (base_of x) x cs) (fine_read_signed false (read_number 10 (c ∷ (x ∷ cs))))))

pub fine_to_number : (v : Value) → IsPrimitive v → Fine (to_number v)
unfolding Fine
fine_to_number Undefined p = tt
fine_to_number Null p = tt
fine_to_number (Boolean true) p = tt
fine_to_number (Boolean false) p = tt
fine_to_number (Number n) p = tt
fine_to_number (String s) p = fine_trimmed (trimmed s)
fine_to_number (Symbol n) p = absurd p
fine_to_number (Object n f) p = absurd p

pub fine_to_text : (v : Value) → IsPrimitive v → Fine (to_text v)
unfolding Fine
fine_to_text Undefined p = tt
fine_to_text Null p = tt
fine_to_text (Boolean b) p = tt
fine_to_text (Number n) p = tt
fine_to_text (String s) p = tt
fine_to_text (Symbol n) p = absurd p
fine_to_text (Object n f) p = absurd p

fine_by_numbers : (o : BinaryOperator) (x y : Value) → IsPrimitive x → IsPrimitive y → Fine (by_numbers o x y)
fine_by_numbers o x y p q = fine_both (to_number x) (to_number y) (of_numbers o) (fine_to_number x p) (fine_to_number y q) (fine_numbers o)

fine_joined : (m n : Made (List ℕ)) → Fine m → Fine n → Fine (joined m n)
fine_joined m n p q = fine_both m n (λ a b. makes (String (a ++ b))) p q (λ a b. fine_makes (String (a ++ b)))

fine_primitives_by : (o : BinaryOperator) (x y : Value) → IsPrimitive x → IsPrimitive y → Fine (by_numbers o x y) → Fine (of_primitives o x y)
unfolding Fine
fine_primitives_by binary.Addition (String s) y p q h = fine_joined (makes s) (to_text y) tt (fine_to_text y q)
fine_primitives_by binary.Addition x (String t) p q h = fine_joined (to_text x) (makes t) (fine_to_text x p) tt
fine_primitives_by binary.LessThan (String s) (String t) p q h = tt
fine_primitives_by binary.GreaterThan (String s) (String t) p q h = tt
fine_primitives_by binary.LessEqualThan (String s) (String t) p q h = tt
fine_primitives_by binary.GreaterEqualThan (String s) (String t) p q h = tt
fine_primitives_by o x y p q h = h

pub fine_primitives : (o : BinaryOperator) (x y : Value) → IsPrimitive x → IsPrimitive y → Fine (of_primitives o x y)
fine_primitives o x y p q = fine_primitives_by o x y p q (fine_by_numbers o x y p q)

pub fine_of_number : (o : UnaryOperator) (n : ℤ) → Fine (of_number o n)
unfolding Fine
fine_of_number unary.UnaryNegation (pos zero) = tt
fine_of_number unary.UnaryNegation (pos (suc n)) = tt
fine_of_number unary.UnaryNegation (negsuc n) = tt
fine_of_number unary.UnaryPlus n = tt
fine_of_number unary.BitwiseNot n = fine_32 (4_294_967_295 - modulo_32 n)
fine_of_number o n = tt

pub fine_operand : (o : UnaryOperator) (m : Made ℤ) → Fine m → Fine (of_operand o m)
unfolding Fine
fine_operand o (makes n) p = fine_of_number o n
fine_operand o raises p = p
fine_operand o outside p = tt

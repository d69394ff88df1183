-- Numbers of 32 bits: what `| 0` and the operators like it make of a number.
use Rattle.std.proofs.Common.{◌≡◌, ℕ, ◌<◌, Bool, true, false, refl, sym, ap, ◌∙◌, true≢false, eqb-true, ltb-true, ltb-false, arith}
use Rattle.std.specs.Prelude.{ℤ, pos, negsuc, ◌-◌, ◌*◌, ◌/◌, ◌%◌, nat_lt}
use Rattle.std.specs.Int.Bits.{bit_and, bit_or, bit_xor, or_zero_r, xor_zero_r, and_mask}
use Rattle.std.proofs.Math.Nat.{div-le_self}
use Rattle.mini_model.specs.declared.operator.BinaryOperator.{BinaryOperator}
use Rattle.mini_model.specs.declared.operator.BinaryOperator.TheVariants as binary_operator
use Rattle.mini_laws.specs.Value.{Value, Number, choose}
use Rattle.mini_laws.specs.Conversion.{Made, makes}
use Rattle.mini_laws.specs.Operators.{same_number, modulo_32, signed_32, shifted_right, two_to, of_numbers}
use Rattle.mini_rows.specs.Operands.{keeps_bits}
use Rattle.mini_rows.proofs.OperandForms.{is_int32_operator}

pub same_is : (n : ℤ) (k : ℕ) → same_number n (pos k) ≡ true → n ≡ pos k
same_is (pos m) k e = ap pos (eqb-true m k e)
same_is (negsuc m) k e = absurd (true≢false (sym e))

modulo_small : (x : ℤ) → modulo_32 x < 4_294_967_296
modulo_small (pos n) = omega arith
modulo_small (negsuc n) = omega arith

-- `a | 0`
abbrev pub whole : ℤ → Made Value
whole m = of_numbers binary_operator.BitwiseOr m (pos 0)

whole_is : (m : ℤ) → whole m ≡ signed_32 (modulo_32 m)
whole_is m = ap signed_32 (or_zero_r (modulo_32 m))

shifted_is : (n : ℕ) → shifted_right n 1 ≡ signed_32 n
shifted_is n =
    let first : n / 1 ≡ n = omega arith in
    let second : (4_294_967_295 - n) / 1 ≡ 4_294_967_295 - n = omega arith in
    ap (λ k. choose (nat_lt n 2_147_483_648) (makes (Number (pos k))) (makes (Number (negsuc ((4_294_967_295 - n) / 1))))) first ∙ ap (λ k. choose (nat_lt n 2_147_483_648) (makes (Number (pos n))) (makes (Number (negsuc k)))) second

left_is : (n : ℕ) → n < 4_294_967_296 → n * 1 % 4_294_967_296 ≡ n
left_is n h = omega (arith, h)

mask_is : (n : ℕ) → n < 4_294_967_296 → bit_and n 4_294_967_295 ≡ n
mask_is n h = let small : n % 4_294_967_296 ≡ n = omega (arith, h) in and_mask n 32 ∙ small

pub keeps_is : (o : BinaryOperator) (n m : ℤ) → keeps_bits o n ≡ true → of_numbers o m n ≡ whole m
keeps_is binary_operator.ShiftLeft n m e = ap (of_numbers binary_operator.ShiftLeft m) (same_is n 0 e) ∙ ap signed_32 (left_is (modulo_32 m) (modulo_small m)) ∙ sym (whole_is m)
keeps_is binary_operator.ShiftRight n m e = ap (of_numbers binary_operator.ShiftRight m) (same_is n 0 e) ∙ shifted_is (modulo_32 m) ∙ sym (whole_is m)
keeps_is binary_operator.BitwiseXor n m e = ap (of_numbers binary_operator.BitwiseXor m) (same_is n 0 e) ∙ ap signed_32 (xor_zero_r (modulo_32 m)) ∙ sym (whole_is m)
keeps_is binary_operator.BitwiseAnd n m e = ap (of_numbers binary_operator.BitwiseAnd m) (same_is n 4_294_967_295 e) ∙ ap signed_32 (mask_is (modulo_32 m) (modulo_small m)) ∙ sym (whole_is m)
keeps_is o n m e = absurd (true≢false (sym e))

-- what `| 0` leaves as it is

abbrev pub IsWhole : Made Value → Type 0
IsWhole (makes (Number m)) = whole m ≡ makes (Number m)
IsWhole (makes v) = ⊥
IsWhole r = Unit {0}

whole_positive : (n : ℕ) → n < 2_147_483_648 → whole (pos n) ≡ makes (Number (pos n))
whole_positive n h =
    let small : n % 4_294_967_296 ≡ n = omega (arith, h) in
    whole_is (pos n) ∙ ap signed_32 small ∙ ap (λ b. choose b (makes (Number (pos n))) (makes (Number (negsuc (4_294_967_295 - n))))) (below (nat_lt n 2_147_483_648) refl)
  where
    below : (b : Bool) → nat_lt n 2_147_483_648 ≡ b → b ≡ true
    below true e = refl
    below false e = absurd (omega (arith, h, ltb-false n 2_147_483_648 e))

whole_negative : (n : ℕ) → n < 2_147_483_648 → whole (negsuc n) ≡ makes (Number (negsuc n))
whole_negative n h =
    let small : n % 4_294_967_296 ≡ n = omega (arith, h) in
    let back : 4_294_967_295 - (4_294_967_295 - n) ≡ n = omega (arith, h) in
    whole_is (negsuc n) ∙ ap (λ k. signed_32 (4_294_967_295 - k)) small ∙ ap (λ b. choose b (makes (Number (pos (4_294_967_295 - n)))) (makes (Number (negsuc (4_294_967_295 - (4_294_967_295 - n)))))) (above (nat_lt (4_294_967_295 - n) 2_147_483_648) refl) ∙ ap (λ k. makes (Number (negsuc k))) back
  where
    above : (b : Bool) → nat_lt (4_294_967_295 - n) 2_147_483_648 ≡ b → b ≡ false
    above false e = refl
    above true e = absurd (omega (arith, h, ltb-true (4_294_967_295 - n) 2_147_483_648 e))

pub signed_whole : (n : ℕ) → IsWhole (signed_32 n)
signed_whole n = go (nat_lt n 2_147_483_648) refl
  where
    go : (b : Bool) → nat_lt n 2_147_483_648 ≡ b → IsWhole (choose b (makes (Number (pos n))) (makes (Number (negsuc (4_294_967_295 - n)))))
    go true e = whole_positive n (ltb-true n 2_147_483_648 e)
    go false e = whole_negative (4_294_967_295 - n) (omega (arith, ltb-false n 2_147_483_648 e))

shifted_whole : (n k : ℕ) → IsWhole (shifted_right n k)
shifted_whole n k = go (nat_lt n 2_147_483_648) refl
  where
    go : (b : Bool) → nat_lt n 2_147_483_648 ≡ b → IsWhole (choose b (makes (Number (pos (n / k)))) (makes (Number (negsuc ((4_294_967_295 - n) / k)))))
    go true e = whole_positive (n / k) (omega (arith, ltb-true n 2_147_483_648 e, div-le_self n k))
    go false e = whole_negative ((4_294_967_295 - n) / k) (omega (arith, ltb-false n 2_147_483_648 e, div-le_self (4_294_967_295 - n) k))

pub operated_whole : (o : BinaryOperator) → is_int32_operator o ≡ true → (m n : ℤ) → IsWhole (of_numbers o m n)
operated_whole binary_operator.BitwiseAnd h m n = signed_whole (bit_and (modulo_32 m) (modulo_32 n))
operated_whole binary_operator.BitwiseXor h m n = signed_whole (bit_xor (modulo_32 m) (modulo_32 n))
operated_whole binary_operator.BitwiseOr h m n = signed_whole (bit_or (modulo_32 m) (modulo_32 n))
operated_whole binary_operator.ShiftLeft h m n = signed_whole (modulo_32 m * two_to n % 4_294_967_296)
operated_whole binary_operator.ShiftRight h m n = shifted_whole (modulo_32 m) (two_to n)
operated_whole o h m n = absurd (true≢false (sym h))

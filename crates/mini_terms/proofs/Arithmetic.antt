-- Operators on whole numbers, in code and in the model.
use Rattle.std.proofs.Common.{◌≡◌, ℕ, zero, suc, ◌<◌, ◌≤◌, Bool, true, false, Some, None, refl, sym, ap, ◌∙◌, true≢false, ltb-true, ltb-false, eq-eqb, eqb-true, arith}
use Rattle.std.specs.Prelude.{ℤ, pos, negsuc, ◌-◌, ◌/◌, ◌%◌, nat_abs, nat_lt, nat_eq, FitsSigned, int_lt}
use mir.Syntax.{w64}
use Rattle.mini_laws.specs.Value.{choose, Number}
use Rattle.mini_laws.specs.Conversion.{makes, outside, is_safe, signed}
use Rattle.mini_laws.specs.Operators.{number, safe_number, differ, quotient, remainder, modulo_32, is_less, same_number, is_negative}
use Rattle.mini_terms.specs.Const.{made}

pub safe_number_is : (n : ℤ) → is_safe n ≡ true → Some (Number n) ≡ made (safe_number n)
safe_number_is n e = ap (λ b. made (choose b (makes (Number n)) outside)) (sym e)

pub unsafe_number_is : (n : ℤ) → is_safe n ≡ false → None ≡ made (safe_number n)
unsafe_number_is n e = ap (λ b. made (choose b (makes (Number n)) outside)) (sym e)

-- what doesn't fit 64 bits is not safe
never_safe : (n : ℤ) → (FitsSigned w64 n → ⊥) → is_safe n ≡ false
never_safe n h = go (is_safe n) refl
  where
    fits : (n : ℤ) → is_safe n ≡ true → FitsSigned w64 n
    fits (pos n) e = record { sfits = omega (arith, ltb-true n 9_007_199_254_740_992 e) }
    fits (negsuc n) e = record { sfits = omega (arith, ltb-true (suc n) 9_007_199_254_740_992 e) }

    go : (b : Bool) → is_safe n ≡ b → b ≡ false
    go false e = refl
    go true e = absurd (h (fits n e))

pub sum_out : (n : ℤ) → (FitsSigned w64 n → ⊥) → None ≡ made (safe_number n)
sum_out n h = unsafe_number_is n (never_safe n h)

large : (n : ℕ) → 9_007_199_254_740_992 ≤ n → nat_lt n 9_007_199_254_740_992 ≡ false
large n h = go (nat_lt n 9_007_199_254_740_992) refl
  where
    go : (b : Bool) → nat_lt n 9_007_199_254_740_992 ≡ b → b ≡ false
    go false e = refl
    go true e = absurd (omega (arith, h, ltb-true n 9_007_199_254_740_992 e))

small : (n : ℕ) → n < 9_007_199_254_740_992 → nat_lt n 9_007_199_254_740_992 ≡ true
small n h = go (nat_lt n 9_007_199_254_740_992) refl
  where
    go : (b : Bool) → nat_lt n 9_007_199_254_740_992 ≡ b → b ≡ true
    go true e = refl
    go false e = absurd (omega (arith, h, ltb-false n 9_007_199_254_740_992 e))

pub large_out : (minus : Bool) (n : ℕ) → 9_007_199_254_740_992 ≤ n → None ≡ made (number (signed minus n))
large_out true zero h = refl
large_out true (suc n) h = ap (λ b. made (number (choose b (makes (negsuc n)) outside))) (sym (large (suc n) h))
large_out false n h = ap (λ b. made (number (choose b (makes (pos n)) outside))) (sym (large n h))

pub positive_is : (n : ℕ) → n < 9_007_199_254_740_992 → Some (Number (pos n)) ≡ made (number (signed false n))
positive_is n h = ap (λ b. made (number (choose b (makes (pos n)) outside))) (sym (small n h))

pub negative_is : (n : ℕ) → suc n < 9_007_199_254_740_992 → Some (Number (negsuc n)) ≡ made (number (signed true (suc n)))
negative_is n h = ap (λ b. made (number (choose b (makes (negsuc n)) outside))) (sym (small (suc n) h))

pub minus_zero : None ≡ made (number (signed true zero))
minus_zero = refl

-- quotients and remainders

pub no_quotient : (m n : ℤ) → nat_abs n ≡ 0 → None ≡ made (quotient m n)
no_quotient m (pos zero) e = refl
no_quotient m (pos (suc n)) e = absurd (omega (arith, e))
no_quotient m (negsuc n) e = absurd (omega (arith, e))

even_test : (n : ℕ) → n ≡ 0 → nat_eq n 0 ≡ true
even_test n e = eq-eqb n 0 e

uneven_test : (n : ℕ) → (n ≡ 0 → ⊥) → nat_eq n 0 ≡ false
uneven_test n h = go (nat_eq n 0) refl
  where
    go : (b : Bool) → nat_eq n 0 ≡ b → b ≡ false
    go false e = refl
    go true e = absurd (h (eqb-true n 0 e))

pub uneven_quotient : (m n : ℤ) → (nat_abs n ≡ 0 → ⊥) → (nat_abs m % nat_abs n ≡ 0 → ⊥) → None ≡ made (quotient m n)
uneven_quotient m (pos zero) h k = absurd (h refl)
uneven_quotient m (pos (suc n)) h k = ap (λ b. made (choose b (number (signed (differ (is_negative m) false) (nat_abs m / suc n))) outside)) (sym (uneven_test (nat_abs m % suc n) k))
uneven_quotient m (negsuc n) h k = ap (λ b. made (choose b (number (signed (differ (is_negative m) true) (nat_abs m / suc n))) outside)) (sym (uneven_test (nat_abs m % suc n) k))

pub quotient_is : (m n : ℤ) → (nat_abs n ≡ 0 → ⊥) → nat_abs m % nat_abs n ≡ 0 → made (number (signed (differ (is_negative m) (is_negative n)) (nat_abs m / nat_abs n))) ≡ made (quotient m n)
quotient_is m (pos zero) h k = absurd (h refl)
quotient_is m (pos (suc n)) h k = ap (λ b. made (choose b (number (signed (differ (is_negative m) false) (nat_abs m / suc n))) outside)) (sym (even_test (nat_abs m % suc n) k))
quotient_is m (negsuc n) h k = ap (λ b. made (choose b (number (signed (differ (is_negative m) true) (nat_abs m / suc n))) outside)) (sym (even_test (nat_abs m % suc n) k))

pub no_remainder : (m n : ℤ) → nat_abs n ≡ 0 → None ≡ made (remainder m n)
no_remainder m (pos zero) e = refl
no_remainder m (pos (suc n)) e = absurd (omega (arith, e))
no_remainder m (negsuc n) e = absurd (omega (arith, e))

pub remainder_is : (m n : ℤ) → (nat_abs n ≡ 0 → ⊥) → made (number (signed (is_negative m) (nat_abs m % nat_abs n))) ≡ made (remainder m n)
remainder_is m (pos zero) h = absurd (h refl)
remainder_is m (pos (suc n)) h = refl
remainder_is m (negsuc n) h = refl

-- 32 bits

pub modulo_positive : (n : ℤ) → is_negative n ≡ false → nat_abs n % 4_294_967_296 ≡ modulo_32 n
modulo_positive (pos n) e = refl
modulo_positive (negsuc n) e = absurd (true≢false e)

pub modulo_negative : (n : ℤ) → is_negative n ≡ true → 4_294_967_295 - (nat_abs n - 1) % 4_294_967_296 ≡ modulo_32 n
modulo_negative (pos n) e = absurd (true≢false (sym e))
modulo_negative (negsuc n) e = let less : suc n - 1 ≡ n = omega arith in ap (λ k. 4_294_967_295 - k % 4_294_967_296) less

-- order and equality

pub less_is : (m n : ℤ) → int_lt m n ≡ is_less m n
less_is (pos m) (pos n) = refl
less_is (pos m) (negsuc n) = refl
less_is (negsuc m) (pos n) = refl
less_is (negsuc m) (negsuc n) = refl

below_zero : (n : ℕ) → nat_lt n 0 ≡ false
below_zero n = go (nat_lt n 0) refl
  where
    go : (b : Bool) → nat_lt n 0 ≡ b → b ≡ false
    go false e = refl
    go true e = absurd (omega (arith, ltb-true n 0 e))

pub negative_test : (n : ℤ) → int_lt n (pos 0) ≡ is_negative n
negative_test (pos n) = below_zero n
negative_test (negsuc n) = refl

same_itself : (n : ℤ) → same_number n n ≡ true
same_itself (pos n) = eq-eqb n n refl
same_itself (negsuc n) = eq-eqb n n refl

pub same_true : (m n : ℤ) → m ≡ n → true ≡ same_number m n
same_true m n e = sym (ap (same_number m) (sym e) ∙ same_itself m)

same_is : (m n : ℤ) → same_number m n ≡ true → m ≡ n
same_is (pos m) (pos n) e = ap (λ k. pos k) (eqb-true m n e)
same_is (negsuc m) (negsuc n) e = ap (λ k. negsuc k) (eqb-true m n e)
same_is (pos m) (negsuc n) e = absurd (true≢false (sym e))
same_is (negsuc m) (pos n) e = absurd (true≢false (sym e))

pub same_false : (m n : ℤ) → (m ≡ n → ⊥) → false ≡ same_number m n
same_false m n h = go (same_number m n) refl
  where
    go : (b : Bool) → same_number m n ≡ b → false ≡ b
    go false e = refl
    go true e = absurd (h (same_is m n e))

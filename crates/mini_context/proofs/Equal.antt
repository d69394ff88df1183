-- Tests of numbers.
use Rattle.std.specs.Prelude.{ℕ, zero, suc, ◌≡◌, refl, nat_eq, Bool, true, false}
use Rattle.std.proofs.Common.{ap, ◌∙◌, arith, sym, eq-eqb}
use Rattle.std.proofs.lemmas.Bool.{eqb-true}

apart_by : (b : Bool) (i k : ℕ) → nat_eq i k ≡ b → (i ≡ k → ⊥) → b ≡ false
apart_by true i k e h = absurd (h (eqb-true i k e))
apart_by false i k e h = refl

pub apart : (i k : ℕ) → (i ≡ k → ⊥) → nat_eq i k ≡ false
apart i k h = apart_by (nat_eq i k) i k refl h

no_suc : (k : ℕ) → zero ≡ suc k → ⊥
no_suc k e = omega (arith, e)

pub zero_suc : (k : ℕ) → nat_eq zero (suc k) ≡ false
zero_suc k = apart zero (suc k) (no_suc k)

pub suc_zero : (k : ℕ) → nat_eq (suc k) zero ≡ false
suc_zero k = apart (suc k) zero (λ e. no_suc k (sym e))

differ : (i k : ℕ) → nat_eq i k ≡ false → suc i ≡ suc k → ⊥
differ i k f e = let same : i ≡ k = omega (arith, e) in let yes = eq-eqb i k same in cc

suc_by : (b : Bool) (i k : ℕ) → nat_eq i k ≡ b → nat_eq (suc i) (suc k) ≡ b
suc_by true i k e = eq-eqb (suc i) (suc k) (ap suc (eqb-true i k e))
suc_by false i k e = apart (suc i) (suc k) (differ i k e)

pub suc_suc : (i k : ℕ) → nat_eq (suc i) (suc k) ≡ nat_eq i k
suc_suc i k = suc_by (nat_eq i k) i k refl

pub eq_sym : (i k : ℕ) → nat_eq i k ≡ nat_eq k i
eq_sym zero zero = refl
eq_sym zero (suc k) = zero_suc k ∙ sym (suc_zero k)
eq_sym (suc i) zero = suc_zero i ∙ sym (zero_suc i)
eq_sym (suc i) (suc k) = suc_suc i k ∙ eq_sym i k ∙ sym (suc_suc k i)

-- What a reading that succeeds or fails was made of.
use Rattle.std.proofs.Common.{◌≡◌, ℕ, List, refl, ap, sym, inl, inr}
use Rattle.std.specs.Prelude.{◌⊎◌, Result, Ok, Err}
use Rattle.mini_accept.specs.Faults.{Fault, fault_under, under, ◌>>=◌}

or_else : {A E : Type 0} → A → Result A E → A
or_else x (Ok y) = y
or_else x (Err f) = x

or_error : {A E : Type 0} → E → Result A E → E
or_error f (Ok x) = f
or_error f (Err g) = g

pub ok_same : {A E : Type 0} (x y : A) → ◌≡◌ {A = Result A E} (Ok x) (Ok y) → x ≡ y
unfolding or_else
ok_same x y e = ap (or_else x) e

pub err_same : {A E : Type 0} (f g : E) → ◌≡◌ {A = Result A E} (Err f) (Err g) → f ≡ g
unfolding or_error
err_same f g e = ap (or_error f) e

pub bind_ok : {A B : Type 0} (m : Result A Fault) (k : A → Result B Fault) (y : B) → (m >>= k) ≡ Ok y → (x : A) × (m ≡ Ok x) × (k x ≡ Ok y)
bind_ok (Ok x) k y e = (x, refl, e)
bind_ok (Err f) k y e = absurd (cc e)

pub under_ok : {A : Type 0} (step : List ℕ) (m : Result A Fault) (x : A) → under step m ≡ Ok x → m ≡ Ok x
under_ok step (Ok y) x e = e
under_ok step (Err f) x e = absurd (cc e)

pub bind_err : {A B : Type 0} (m : Result A Fault) (k : A → Result B Fault) (f : Fault) → (m >>= k) ≡ Err f → (m ≡ Err f) ⊎ ((x : A) × (m ≡ Ok x) × (k x ≡ Err f))
bind_err (Ok x) k f e = inr (x, refl, e)
bind_err {A} {B} (Err g) k f e = inl (ap (λ x. Err x) (err_same {A = B} g f e))

pub under_err : {A : Type 0} (step : List ℕ) (m : Result A Fault) (f : Fault) → under step m ≡ Err f → (g : Fault) × (m ≡ Err g) × (f ≡ fault_under step g)
under_err step (Ok x) f e = absurd (cc e)
under_err {A} step (Err g) f e = (g, refl, sym (err_same {A = A} _ f e))

-- Places on the way.
use Rattle.std.specs.Prelude.{ℕ, zero, suc, ◌≡◌, refl, Some, None}
use Rattle.std.proofs.Common.{ap, ◌∙◌, sym}
use Rattle.mini_rows.specs.declared.inside.Way.{Way}
use Rattle.mini_rows.specs.Inside.{at_place}

same_place : (n : ℕ) (w : Way) → at_place n w n ≡ Some w
same_place zero w = refl
same_place (suc n) w = same_place n w

other_place : (n i : ℕ) (w : Way) → (i ≡ n → ⊥) → at_place n w i ≡ None
other_place zero zero w f = absurd (f refl)
other_place zero (suc i) w f = refl
other_place (suc n) zero w f = refl
other_place (suc n) (suc i) w f = other_place n i w (λ e. f (ap suc e))

-- as the code tells
pub at_the_place : (n i : ℕ) (w : Way) → i ≡ n → Some w ≡ at_place n w i
at_the_place n i w e = sym (ap (at_place n w) e ∙ same_place n w)

pub elsewhere : (n i : ℕ) (w : Way) → (i ≡ n → ⊥) → None ≡ at_place n w i
elsewhere n i w f = sym (other_place n i w f)

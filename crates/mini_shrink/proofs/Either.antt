-- One of two, and neither.
use Rattle.std.specs.Prelude.{◌≡◌, ◌⊎◌, refl, Bool, true, false, ◌&&◌, ◌||◌, not}
use Rattle.std.proofs.Common.{sym, inl, inr, true≢false}

pub or_parts : (a b : Bool) → (a || b) ≡ false → (a ≡ false) × (b ≡ false)
or_parts true b e = absurd (true≢false e)
or_parts false b e = (refl, e)

pub not_true : (a : Bool) → not a ≡ true → a ≡ false
not_true true e = absurd (true≢false (sym e))
not_true false e = refl

pub false_not : (a : Bool) → a ≡ false → not a ≡ true
false_not true e = absurd (true≢false e)
false_not false e = refl

pub either : (a : Bool) → (a ≡ true) ⊎ (a ≡ false)
either true = inl refl
either false = inr refl

pub refuted : (a : Bool) → (a ≡ true → ⊥) → a ≡ false
refuted true f = absurd (f refl)
refuted false f = refl

-- what follows from each of two follows from one of them; the second may ask for more, as that an
-- item is the last of its list
pub of_either : (a b : Bool) (o : Type 0) → (a ≡ true → o) → (b ≡ true → o) → (a || b) ≡ true → o
of_either true b o f g e = f refl
of_either false b o f g e = g e

pub of_either_if : (a l b : Bool) (o : Type 0) → (a ≡ true → o) → (b ≡ true → o) → (a || (l && b)) ≡ true → o
of_either_if true l b o f g e = f refl
of_either_if false true b o f g e = g e
of_either_if false false b o f g e = absurd (true≢false (sym e))

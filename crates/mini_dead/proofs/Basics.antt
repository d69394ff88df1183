-- Booleans and options.
use Rattle.std.proofs.Common.{◌≡◌, Bool, true, false, Some, None, refl, sym, ap, true≢false}
use Rattle.std.specs.Prelude.{not, ◌&&◌, ◌||◌}

pub neither : (a b : Bool) → (a || b) ≡ false → (a ≡ false) × (b ≡ false)
neither true b p = absurd (true≢false p)
neither false b p = (refl, p)

pub either_way : (a b c : Bool) → (b ≡ true → c ≡ true) → (a || b) ≡ true → (a || c) ≡ true
either_way true b c f p = refl
either_way false b c f p = f p

pub both_ways : (a b c d : Bool) → (a ≡ true → b ≡ true) → (c ≡ true → d ≡ true) → (a || c) ≡ true → (b || d) ≡ true
both_ways true b c d f g p = ap (λ z. z || d) (f refl)
both_ways false true c d f g p = refl
both_ways false false c d f g p = g p

pub second : (a b : Bool) → b ≡ true → (a || b) ≡ true
second true b p = refl
second false b p = p

pub not_second : (a b : Bool) → (a && not b) ≡ true → b ≡ false
not_second true false p = refl
not_second true true p = absurd (true≢false (sym p))
not_second false b p = absurd (true≢false (sym p))

pub some_is : {A : Type 0} (a b : A) → Some a ≡ Some b → a ≡ b
some_is a b e = cc

pub none_is : {A : Type 0} (a : A) → None ≡ Some a → ⊥
none_is a e = cc

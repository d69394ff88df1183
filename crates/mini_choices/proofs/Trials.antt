-- What is written by the first of some tests that holds.
use borrow.Author.Tests.{ltb-false}
use Rattle.std.proofs.Common.{◌≡◌, ◌<◌, ◌^◌, arith, true≢false, Bool, true, false, Option, Some, None, refl, sym, subst}
use Rattle.std.specs.Prelude.{◌&&◌, not, is_some, if◌then◌else◌}
use Rattle.mini_model.specs.declared.place.Position.TheVariants.{Expr}
use Rattle.mini_model.specs.declared.seat.Seat.{Seat}
use Rattle.mini_model.specs.Tree.{Tree}
use Rattle.mini_model.specs.Weight.{weight}
use Rattle.mini_choices.specs.MinimizeConditionalBranches.{is_lighter}
use Rattle.mini_choices.specs.Choices.{first_of}

pub some_is : {A : Type 0} (x y : A) → Some x ≡ Some y → x ≡ y
some_is x y e = cc e

pub not_true : (b : Bool) → not b ≡ true → b ≡ false
not_true true e = absurd (cc e)
not_true false e = refl

pub both_true : (a b : Bool) → a ≡ true → b ≡ true → a && b ≡ true
both_true true b e f = f
both_true false b e f = absurd (true≢false (sym e))

-- the first test that holds, or what the next ones write
pub tries : (R : Tree → Type 0) (w : Tree) (b : Bool) (made : Tree) (next : Option Tree) → (b ≡ true → R made) → (next ≡ Some w → R w) → (if b then Some made else next) ≡ Some w → R w
tries R w true made next f g e = subst R (some_is made w e) (f refl)
tries R w false made next f g e = g e

-- what a row says, and is lighter
abbrev pub Falls : (Seat → Tree → Tree → Type 0) → Seat → Tree → Tree → Type 0
Falls R s n w = R s n w × (weight (Expr s) w < weight (Expr s) n)

-- what is tried writes something where one test holds

pub first_true : (b : Bool) (made : Tree) (next : Option Tree) → b ≡ true → is_some (if b then Some made else next) ≡ true
first_true true made next e = refl
first_true false made next e = absurd (true≢false (sym e))

pub later_true : (b : Bool) (made : Tree) (next : Option Tree) → is_some next ≡ true → is_some (if b then Some made else next) ≡ true
later_true true made next e = refl
later_true false made next e = e

-- the first of two that is there

pub first_there : (a b : Option Tree) → is_some a ≡ true → is_some (first_of a b) ≡ true
first_there (Some w) b e = refl
first_there None b e = absurd (true≢false (sym e))

pub second_there : (a b : Option Tree) → is_some b ≡ true → is_some (first_of a b) ≡ true
second_there (Some w) b e = refl
second_there None b e = e

pub lighter_test : (s : Seat) (w t : Tree) → weight (Expr s) t < 2 ^ 64 → weight (Expr s) w < weight (Expr s) t → is_lighter s w t ≡ true
lighter_test s w t small less = go (is_lighter s w t) refl
  where
    go : (b : Bool) → is_lighter s w t ≡ b → b ≡ true
    go true h = refl
    go false h = absurd (omega (arith, ltb-false _ _ h, small, less))

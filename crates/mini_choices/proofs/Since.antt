-- What is written where an edition has its form.
use Rattle.std.proofs.Common.{◌≡◌, ℕ, ◌≤◌, arith, Bool, true, false, true≢false, Option, Some, None, refl, sym, ◌∙◌}
use Rattle.std.specs.Prelude.{nat_le, is_some, if◌then◌else◌}
use Rattle.std.proofs.lemmas.Bool.{leb-true, le-leb}
use Rattle.mini_model.specs.Tree.{Tree}
use Rattle.mini_choices.specs.Choices.{since, either_since}

-- either the edition has the form, or what else is written is
pub in_edition : {R : Type 0} (y e : ℕ) (a b : Option Tree) (w : Tree) → (y ≤ e → a ≡ Some w → R) → (b ≡ Some w → R) → either_since y e a b ≡ Some w → R
in_edition {R} y e a b w newer older h = by (nat_le y e) refl h
  where
    by : (c : Bool) → nat_le y e ≡ c → (if c then a else b) ≡ Some w → R
    by true k h = newer (leb-true y e k) h
    by false k h = older h

pub since_is : (y e : ℕ) (a : Option Tree) (w : Tree) → since y e a ≡ Some w → (y ≤ e) × (a ≡ Some w)
since_is y e a w h = in_edition y e a None w (λ late h. (late, h)) (λ h. absurd (cc h)) h

pub newer_passes : (y e : ℕ) (a b : Option Tree) → y ≤ e → is_some a ≡ true → is_some (either_since y e a b) ≡ true
newer_passes y e a b late h = by (nat_le y e) (le-leb y e late)
  where
    by : (c : Bool) → c ≡ true → is_some (if c then a else b) ≡ true
    by true k = h
    by false k = absurd (true≢false (sym k))

pub since_passes : (y e : ℕ) (a : Option Tree) → y ≤ e → is_some a ≡ true → is_some (since y e a) ≡ true
since_passes y e a late h = newer_passes y e a None late h

pub either_passes : (y e : ℕ) (a b : Option Tree) → is_some a ≡ true → is_some b ≡ true → is_some (either_since y e a b) ≡ true
either_passes y e a b g h = by (nat_le y e)
  where
    by : (c : Bool) → is_some (if c then a else b) ≡ true
    by true = g
    by false = h

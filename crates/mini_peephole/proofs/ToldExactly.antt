-- What a look at a program tells of its bodies is known of them.
use Rattle.std.specs.Prelude.{ℕ, ◌≡◌, true}
use Rattle.std.proofs.Common.{sym, true≢false}
use Rattle.mini_model.specs.Tree.{Tree}
use Rattle.mini_laws.specs.Value.{Variable, Declared, Global}
use Rattle.mini_kept.specs.Without.{Within}
use Rattle.mini_shrink.specs.Exact.{exactly_of}
use Rattle.mini_shrink.specs.SameForeign.{DeclaresOnce}
use Rattle.mini_shrink.proofs.SameForeign.{exact_is_all}
use Rattle.mini_steady.specs.Told.{told_in}

module _ (t : Tree) (e : DeclaresOnce t) (b : ℕ) where
  steady : (x : Variable) → (told_in t b).steady x ≡ true → (exactly_of t b).steady x ≡ true
  steady (Declared s) h = (exact_is_all t e b).steady (Declared s) h
  steady (Global s) h = absurd (true≢false (sym h))

  unshared : (x : Variable) → (told_in t b).unshared x ≡ true → (exactly_of t b).unshared x ≡ true
  unshared (Declared s) h = (exact_is_all t e b).unshared (Declared s) h
  unshared (Global s) h = absurd (true≢false (sym h))

  initial : (x : Variable) → (told_in t b).initial x ≡ true → (exactly_of t b).initial x ≡ true
  initial (Declared s) h = (exact_is_all t e b).initial (Declared s) h
  initial (Global s) h = absurd (true≢false (sym h))

  pub told_within : Within (told_in t b) (exactly_of t b)
  told_within = record { steady = steady; unshared = unshared; initial = initial; has_this = λ h. h }

-- All that is said of a program that lost its dead items, in one place.
use Rattle.std.specs.Prelude.{◌≡◌, ℕ, []}
use Rattle.mini_model.specs.Tree.{Tree}
use Rattle.mini_accept.specs.WellShaped.{IsWellShaped}
use Rattle.mini_laws.specs.declared.names.Use.TheVariants.{Read}
use Rattle.mini_laws.specs.Resolved.{resolved_program}
use Rattle.mini_laws.specs.Scoped.{Scoped}
use Rattle.mini_laws.specs.Symbols.{declared_symbols, Distinct, bare, renamed}
use Rattle.mini_kept.specs.Frames.{frames_in, FramesKept}
use Rattle.mini_dead.specs.Dead.{dead_count}
use Rattle.mini_dead.specs.Drops.{DropsAgain, NumbersOnce, BodiesStay}
use Rattle.mini_dead.specs.KeptNames.{NamesStay}

pub record DeadDropped (old new : Tree) (n : ℕ) : Type 0 where
  -- Dead items alone go, one after another or at once. The number says how many did, and counts
  -- none that goes as a part of another
  pub drops : DropsAgain old new n
  -- no item of the last program is dead
  pub none_left : dead_count new ≡ 0
  -- where none went, the program is what it was
  pub unchanged : n ≡ 0 → new ≡ old
  -- the last program is one of ESTree
  pub shaped : IsWellShaped new
  -- Each body that is left is one that the program had, and does what that did, but for the
  -- creation of the functions that went. The last program tells which variables are shared and
  -- foreign, and each creation that is left out is answered normally and changes no variable
  pub bodies : NumbersOnce old → BodiesStay old new
  -- All that stands outside bodies is kept: each node with a number has the frame that it had, and
  -- so has the program itself
  pub frames : Scoped Read [] old → FramesKept (frames_in old) (frames_in new)
  -- the names that are left are resolved as before, and there is no early error
  pub names : NamesStay old new
  -- the program as it is written, without symbols, is resolved to the symbols that it carries
  pub resolved : Scoped Read [] old → Distinct (declared_symbols old) → renamed (declared_symbols new) (resolved_program (bare new)) ≡ new

-- so it is of every program that loses dead items until there is none
abbrev pub DeadIsDropped : Type 0
DeadIsDropped = (old new : Tree) (n : ℕ) → IsWellShaped old → DropsAgain old new n → dead_count new ≡ 0 → DeadDropped old new n

-- Counts of faults, and what they are the cause of.
use Rattle.std.specs.Prelude.{ℕ, ◌+◌, ◌-◌, ◌^◌, ◌≤◌, min, List, take, Option, Result, OnErr}
use Rattle.std.specs.Io.KnownBytes.{Appends}

-- the count rose, or stands at the counter's last value
abbrev pub Rose : ℕ → ℕ → Type 0
Rose before now = min (before + 1) (2 ^ 64 - 1) ≤ now

-- the count never falls, and a failure shows in it
pub record HasCause {T E : Type 0} (before now : ℕ) (result : Result T E) : Type 0 where
  pub later : before ≤ now
  pub failed : OnErr result (Rose before now)

-- known bytes grew by a beginning of all
abbrev pub GrewWithin : Option (List ℕ) → Option (List ℕ) → List ℕ → Type 0
GrewWithin old new all = (n : ℕ) × Appends old new (take n all)

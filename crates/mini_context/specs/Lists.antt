-- Lists of numbers, at an index each.
use Rattle.std.specs.Prelude.{ℕ, ◌≡◌, ◌<◌, nat_eq, Bool, not, ◌&&◌, ◌||◌, List, [], length, slice_index_or}
use Rattle.std.specs.List.{list_any}
use Rattle.mini_laws.specs.Mentions.{Mention, same_variable, is_elsewhere}
use Rattle.mini_context.specs.Tables.{named}

-- whether a number stands in the list at an index: past the end there is none
abbrev pub holds : List (List ℕ) → ℕ → ℕ → Bool
holds ls s k = list_any (nat_eq k) (slice_index_or ls s [])

-- a number was put into the list at an index
pub record Put (at number : ℕ) (old new : List (List ℕ)) : Type 0 where
  pub lists : length new ≡ length old
  pub each : (s : ℕ) → s < length old → (k : ℕ) → holds new s k ≡ (holds old s k || (nat_eq at s && nat_eq number k))

-- the bodies in which these mentions stand were put into the lists of their symbols; what stands in
-- a carried node is in none
pub record Housed (ms : List Mention) (old new : List (List ℕ)) : Type 0 where
  pub lists : length new ≡ length old
  pub each : (s : ℕ) → s < length old → (b : ℕ) → holds new s b ≡ (holds old s b || list_any (λ m. same_variable (named s) m.name && not (is_elsewhere b m.around)) ms)

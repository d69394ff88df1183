-- How many references there are to a symbol, and counts that fall by those of a part.
use Rattle.std.specs.Prelude.{ℕ, ◌+◌, ◌≡◌, ◌≤◌, ◌<◌, ◌&&◌, Bool, List, ◌++◌, count_by, length, slice_index}
use Rattle.mini_laws.specs.declared.names.Use.{Use}
use Rattle.mini_laws.specs.References.{Reference, has_symbol}

-- how many of the references of a kind are to a symbol
abbrev pub times_of : (Use → Bool) → ℕ → List Reference → ℕ
times_of p s rs = count_by (λ r. p r.used && has_symbol s r.name.symbol) rs

-- they are contained in the counts
abbrev pub Contained : (Use → Bool) → List Reference → List ℕ → Type 0
Contained p rs counts = (s : ℕ) → times_of p s rs ≤ slice_index counts s

-- the counts fall by them, and by nothing else
pub record FellBy (p : Use → Bool) (rs : List Reference) (old new : List ℕ) : Type 0 where
  pub symbols : length new ≡ length old
  pub each : (s : ℕ) → slice_index new s + times_of p s rs ≡ slice_index old s

-- where the counts are those of references of which some are a part's, and they fall by those of
-- the part, they are those of the references that are left
abbrev pub AreTimes : (Use → Bool) → List Reference → ℕ → List ℕ → Type 0
AreTimes p rs n counts = (s : ℕ) → s < n → slice_index counts s ≡ times_of p s rs

abbrev pub DropsTell : Type 0
DropsTell = (p : Use → Bool) (before part after : List Reference) (n : ℕ) (old new : List ℕ) → AreTimes p (before ++ part ++ after) n old → FellBy p part old new → AreTimes p (before ++ after) n new

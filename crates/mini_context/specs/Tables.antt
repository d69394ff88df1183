-- Tables of marks, by symbol and by body.
use Rattle.std.specs.Prelude.{ℕ, ◌≡◌, ◌<◌, nat_eq, Bool, false, ◌&&◌, ◌||◌, List, [], ◌++◌, length, map, replicate, slice_index, slice_index_or, Some, if◌then◌else◌}
use Rattle.std.specs.List.{list_any}
use Rattle.mini_model.specs.declared.name.Name.{Name}
use Rattle.mini_laws.specs.Mentions.{is_among}
use Rattle.mini_laws.specs.NameBodies.{Frame, Body}
use Rattle.mini_laws.specs.ScopeList.{Scope, scope_from, seen_in}
use Rattle.mini_context.specs.declared.listing.ScopeTables.{ScopeTables}

-- an entry: past the end there is no mark
abbrev pub mark_at : List Bool → ℕ → Bool
mark_at marks k = slice_index_or marks k false

-- a name of which the symbol alone is told
abbrev pub named : ℕ → Name
named s = record { spelling = []; symbol = Some (record { 0 = s }) }

-- the symbols of these names were marked, and no other
pub record Marked (xs : List Name) (old new : List Bool) : Type 0 where
  pub symbols : length new ≡ length old
  pub each : (s : ℕ) → s < length old → mark_at new s ≡ (mark_at old s || is_among (named s) xs)

-- those of these bodies were marked in whose frame this holds, and no other
abbrev pub Noted : (Frame → Bool) → List Body → List Bool → List Bool → Type 0
Noted p bs old new = (b : ℕ) → mark_at new b ≡ (mark_at old b || list_any (λ r. nat_eq r.number b && p r.frame) bs)

-- a scope with a number is that of these names, and of no other
pub record OwnedBy (k : ℕ) (xs : List Name) (old new : List ℕ) : Type 0 where
  pub symbols : length new ≡ length old
  pub each : (s : ℕ) → s < length old → slice_index new s ≡ (if is_among (named s) xs then k else slice_index old s)

-- the scopes of so many symbols, where the first of these scopes has a number
pub record Owned (k : ℕ) (ss : List Scope) (old new : List ℕ) : Type 0 where
  pub symbols : length new ≡ length old
  pub each : (s : ℕ) → s < length old → slice_index new s ≡ scope_from (slice_index old s) k ss s

-- before any scope is listed, and so many symbols are declared
pub record Unlisted (n : ℕ) (f : ScopeTables) : Type 0 where
  pub strict : f.strict.items ≡ []
  pub evals : f.evals.items ≡ []
  pub owners : f.owners.items ≡ replicate n 0
  pub seen : f.seen.items ≡ replicate n false

-- these scopes were listed after those that are
pub record Listed (ss : List Scope) (old new : ScopeTables) : Type 0 where
  pub stricts : new.strict.items ≡ old.strict.items ++ map (λ s. s.strict) ss
  pub evals : new.evals.items ≡ old.evals.items ++ map (λ s. s.evals) ss
  pub owners : Owned (length old.strict.items) ss old.owners.items new.owners.items
  pub seen : Marked (seen_in ss) old.seen.items new.seen.items

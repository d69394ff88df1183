-- Marks by symbol, and which symbols of a program are dead.
use Rattle.std.specs.Prelude.{ℕ, ◌≡◌, ◌<◌, Bool, true, false, not, nat_eq, ◌&&◌, ◌||◌, List, length, slice_index, is_some, if◌then◌else◌}
use Rattle.std.specs.List.{list_any}
use Rattle.mini_model.specs.declared.name.Name.{Name}
use Rattle.mini_model.specs.Tree.{Tree}
use Rattle.mini_laws.specs.References.{reads, writes, counts_of}
use Rattle.mini_dead.specs.Pruned.{Elsewhere, Role, spot_below}
use Rattle.mini_dead.specs.Dead.{has_this_symbol, item_name, declares_inside, declares_otherwise, is_dead_symbol}
use Rattle.mini_dead.specs.Marked.{AreUnseen, may_go}
use Rattle.mini_context.specs.Tables.{mark_at}
use Rattle.mini_context.specs.Facts.{Facts, shared_always}
use Rattle.mini_context.specs.Holders.{AllBelow}

-- the symbols of a set were marked, and no other
pub record Adds (p : ℕ → Bool) (old new : List Bool) : Type 0 where
  pub symbols : length new ≡ length old
  pub each : (s : ℕ) → s < length old → mark_at new s ≡ (mark_at old s || p s)

-- whether one of these names has a symbol
abbrev pub any_has : List Name → ℕ → Bool
any_has xs s = list_any (has_this_symbol s) xs

-- whether a part of a list declares a symbol otherwise than as an item
abbrev pub part_declares : Role → ℕ → Tree → ℕ → Bool
part_declares r i t s = if is_some (item_name r t) then declares_inside s t else declares_otherwise s (spot_below r i) t

-- whether a symbol is dead, as the tables of the program tell it, and whether anything but an item
-- declares it
abbrev pub unreferenced_by : Facts → ℕ → Bool
unreferenced_by f s = nat_eq (slice_index f.reads s) 0 && nat_eq (slice_index f.writes s) 0

abbrev pub dead_by : Facts → ℕ → Bool → Bool
dead_by f s declared = unreferenced_by f s && (not declared && not (shared_always f s))

-- the marks of the dead ones of so many symbols
pub record ListsDead (f : Facts) (declared : List Bool) (n : ℕ) (marks : List Bool) : Type 0 where
  pub symbols : length marks ≡ n
  pub each : (s : ℕ) → s < n → mark_at marks s ≡ dead_by f s (mark_at declared s)

-- the marks are those of the dead symbols of a program, and there is one for each symbol
pub record DeadSymbols (t : Tree) (marks : List Bool) : Type 0 where
  pub each : (s : ℕ) → s < length marks → mark_at marks s ≡ is_dead_symbol t s
  pub whole : AllBelow (length marks) t

-- of so many symbols none of the set is shared always, as the tables tell it
abbrev pub Unseen : (ℕ → Bool) → Facts → ℕ → Type 0
Unseen S f n = (s : ℕ) → s < n → S s ≡ true → shared_always f s ≡ false

-- the items of a set may go from a program at once, each in its round
pub record Sound (set : List Bool) (rounds : List ℕ) (t : Tree) : Type 0 where
  pub unseen : AreUnseen (mark_at set) t
  pub goes : may_go (mark_at set) (slice_index rounds) Elsewhere t ≡ true

-- how often the tables say that each symbol is read and written is what counting a program anew
-- gives
pub record CountedAnew (f : Facts) (t : Tree) : Type 0 where
  pub reads : f.reads ≡ counts_of reads (length f.reads) t
  pub writes : f.writes ≡ counts_of writes (length f.reads) t

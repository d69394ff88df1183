-- What is said of a log that is made.
use Rattle.std.specs.Prelude.{ℕ, ◌<◌, ◌≤◌, ◌≡◌, Bool, true, false, List, [], ◌∷◌, ◌++◌, length, Option, Some, None}
use Rattle.mini_model.specs.declared.place.Position.TheVariants.{Elsewhere}
use Rattle.mini_model.specs.Paths.{Path}
use Rattle.mini_model.specs.Tree.{Tree}
use Rattle.mini_log.specs.declared.row.LogRow.{LogRow}
use Rattle.mini_log.specs.Walk.{step_at}
use Rattle.mini_checker.specs.declared.log.LogEntry.{LogEntry}
use Rattle.mini_checker.specs.Checked.{Rows, entry_step_by, replayed_by}
use Rattle.mini_replay.specs.Seeking.{IsPath}

module _ (F : Rows) where
  -- no row has a step at any path of a program
  abbrev pub NothingLeft : Tree → Type 0
  NothingLeft t = (r : LogRow) (q : Path) → IsPath t q → step_at (F r) Elsewhere t q ≡ None

  -- an entry was made and logged
  pub record Entered (t u : Tree) (old new : List LogEntry) : Type 0 where
    pub entry : LogEntry
    pub log : new ≡ old ++ entry ∷ []
    pub made : entry_step_by F t entry ≡ Some u

  -- or there was no step, and nothing changed
  pub record NotEntered (w : Option Tree) (t u : Tree) (old new : List LogEntry) : Type 0 where
    pub none : w ≡ None
    pub log : new ≡ old
    pub program : u ≡ t

  -- told the step that was to be made
  abbrev pub EnteredIf : Option Tree → Tree → Tree → List LogEntry → List LogEntry → Bool → Type 0
  EnteredIf w t u old new true = Entered t u old new
  EnteredIf w t u old new false = NotEntered w t u old new

  -- no entry was made
  pub record NoMore (t u : Tree) (old new : List LogEntry) (max : ℕ) : Type 0 where
    pub log : new ≡ old
    pub program : u ≡ t
    pub left : length old < max → NothingLeft t

  abbrev pub Next : Tree → Tree → List LogEntry → List LogEntry → ℕ → Bool → Type 0
  Next t u old new max true = (length old < max) × Entered t u old new
  Next t u old new max false = NoMore t u old new max

  -- some entries were made and logged, or none, up to so many in all
  pub record Further (t u : Tree) (old new : List LogEntry) (max : ℕ) : Type 0 where
    pub replays : (first : Tree) → replayed_by F first old ≡ Some t → replayed_by F first new ≡ Some u
    pub longer : length old ≤ length new
    pub within : length old ≤ max → length new ≤ max

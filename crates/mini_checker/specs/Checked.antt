-- What a check of a log says, by what each row makes of a tree in its place.
use Rattle.std.specs.Prelude.{ℕ, ◌≡◌, List, [], ◌∷◌, Option, Some, None, option_and_then, take, slice_get}
use Rattle.mini_model.specs.declared.place.Position.{Position}
use Rattle.mini_model.specs.declared.place.Position.TheVariants.{Elsewhere}
use Rattle.mini_model.specs.Paths.{Path}
use Rattle.mini_model.specs.Tree.{Tree}
use Rattle.mini_log.specs.declared.row.LogRow.{LogRow}
use Rattle.mini_log.specs.RowStep.{row_numbered}
use Rattle.mini_log.specs.Walk.{step_at}
use Rattle.mini_checker.specs.declared.log.LogEntry.{LogEntry}
use Rattle.mini_checker.specs.declared.log.Verdict.{Verdict}
use Rattle.mini_checker.specs.declared.log.Verdict.TheVariants.{Yes, No}

-- what each row makes of a tree in its place, told the rest of the path
abbrev pub Rows : Type 0
Rows = LogRow → Position → Tree → Path → Option Tree

-- the program after an entry, and after all of a log, if each has a step
abbrev pub entry_step_by : Rows → Tree → LogEntry → Option Tree
entry_step_by F t x = option_and_then (λ r. step_at (F r) Elsewhere t x.at) (row_numbered x.row)

abbrev pub replayed_by : Rows → Tree → List LogEntry → Option Tree
replayed_by F t [] = Some t
replayed_by F t (x ∷ log) = option_and_then (λ u. replayed_by F u log) (entry_step_by F t x)

-- the entry at this index has no step, and those before it lead to u
pub record StopsAt (F : Rows) (t u : Tree) (log : List LogEntry) (k : ℕ) : Type 0 where
  pub entry : LogEntry
  pub there : slice_get log k ≡ Some entry
  pub before : replayed_by F t (take k log) ≡ Some u
  pub no_step : entry_step_by F u entry ≡ None

-- t became u, where each entry has a step; else up to the first that has none
abbrev pub Checked : Rows → Tree → Tree → List LogEntry → Verdict → Type 0
Checked F t u log Yes = replayed_by F t log ≡ Some u
Checked F t u log (No k) = StopsAt F t u log k

-- The laws of a row's step and of a log.
use Rattle.std.specs.Prelude.{◌≡◌, ◌≤◌, ◌+◌, List, length, Some}
use Rattle.mini_model.specs.declared.place.Position.TheVariants.{Elsewhere}
use Rattle.mini_model.specs.Paths.{Path}
use Rattle.mini_model.specs.Rewriting.{Step, Reaches}
use Rattle.mini_model.specs.Tree.{Tree}
use Rattle.mini_model.specs.Weight.{weight}
use Rattle.mini_accept.specs.WellShaped.{IsWellShaped}
use Rattle.mini_laws.specs.Value.{VariableSet}
use Rattle.mini_kept.specs.Loosely.{ProgramIsKeptLoosely}
use Rattle.mini_rows.specs.Switches.{Switches, let_go, of_every_edition}
use Rattle.mini_rows.specs.Redex.{Rewrites}
use Rattle.mini_log.specs.declared.row.LogRow.{LogRow}
use Rattle.mini_log.specs.RowStep.{Entry, row_step, replayed}

-- a row's step at a path is a step by a row of the rewrites, at that place or at the list or the
-- statement around it: of those of every edition, since a log may write `x ||= b`
abbrev pub RowStepIsAStep : Type 0
RowStepIsAStep = (o : Switches) (W : VariableSet) (r : LogRow) (t : Tree) (q : Path) (u : Tree) → row_step o.sequences W r t q ≡ Some u → Step (Rewrites (of_every_edition o) W) Elsewhere t u

-- it makes the program lighter
abbrev pub RowStepLightens : Type 0
RowStepLightens = (o : Switches) (W : VariableSet) (r : LogRow) (t : Tree) (q : Path) (u : Tree) → row_step o.sequences W r t q ≡ Some u → weight Elsewhere u + 1 ≤ weight Elsewhere t

-- so a log whose entries all have a step is a way of steps
abbrev pub LogIsAWay : Type 0
LogIsAWay = (o : Switches) (W : VariableSet) (t u : Tree) (log : List Entry) → replayed o.sequences W t log ≡ Some u → Reaches (Rewrites (of_every_edition o) W) Elsewhere t u

-- and the last program keeps all that the first one has to keep, where the variables W can be
-- written: it is well shaped and resolved, each of its bodies is the same as the first one's of its
-- number, where nobody else sees a variable that it doesn't declare, and frames and names are kept
abbrev pub LogKeeps : Type 0
LogKeeps = (o : Switches) (W : VariableSet) (t u : Tree) (log : List Entry) → IsWellShaped t → replayed o.sequences W t log ≡ Some u → ProgramIsKeptLoosely (let_go o) W t u

-- it is lighter by at least the number of entries
abbrev pub LogLightens : Type 0
LogLightens = (o : Switches) (W : VariableSet) (t u : Tree) (log : List Entry) → replayed o.sequences W t log ≡ Some u → weight Elsewhere u + length log ≤ weight Elsewhere t

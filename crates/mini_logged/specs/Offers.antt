-- Which row makes something of the list or the statement around a node.
use Rattle.std.specs.Prelude.{ℕ, ◌<◌, ◌≡◌, Bool, true, false, ◌&&◌, ◌||◌, Option, Some, None, is_some, if◌then◌else◌}
use Rattle.mini_model.specs.declared.place.Position.{Position}
use Rattle.mini_model.specs.declared.place.Position.TheVariants.{Stmt}
use Rattle.mini_model.specs.Tree.{Tree, Trees, children}
use Rattle.mini_node.specs.Kinds.{is_listed}
use Rattle.mini_laws.specs.Value.{VariableSet}
use Rattle.mini_log.specs.declared.row.LogRow.{LogRow}
use Rattle.mini_log.specs.declared.row.LogRow.TheVariants.{Row61, Row66, Row79}
use Rattle.mini_log.specs.RowStep.{first_lighter, node_forms, row_numbered}
use Rattle.mini_log.specs.ListRows.{bare_export, bare_head, bare_let, first_by, gone, is_statements, joined, spread, unwrapped, within}
use Rattle.mini_replay.specs.declared.seeking.Beside.{Beside}

abbrev pub let_row : Beside
let_row = record { row = Row61; is_below = false }

abbrev pub export_row : Beside
export_row = record { row = Row61; is_below = true }

abbrev pub empty_row : Beside
empty_row = record { row = Row66; is_below = false }

abbrev pub block_row : Beside
block_row = record { row = Row79; is_below = false }

-- of the statement at an index of a list
abbrev pub offer_at : Bool → Trees → ℕ → Option Beside
offer_at sequences ts i =
    if is_some (within (first_by bare_let) ts i) then Some let_row else
    if is_some (within (first_by bare_export) ts i) then Some export_row else
    if is_some (within gone ts i) || is_some (within (joined sequences) ts i) then Some empty_row else
    if is_some (within spread ts i) then Some block_row else None

abbrev pub offer_listed : Bool → Position → Tree → ℕ → Option Beside
offer_listed sequences p t i = if is_statements p && is_listed t then offer_at sequences (children t) i else None

-- of the branch or body of an index, or the head of a `for`
abbrev pub offer_held : Tree → ℕ → Option Beside
offer_held t i = if is_some (bare_head t i) then Some let_row else if is_some (unwrapped t i) then Some block_row else None

abbrev pub offer_beside : Bool → Position → Tree → ℕ → Option Beside
offer_beside sequences (Stmt q) t i = offer_held t i
offer_beside sequences p t i = offer_listed sequences p t i

-- what a row makes of a node, where the path ends there
abbrev pub made_here : VariableSet → Position → Tree → LogRow → Option Tree
made_here W p t r = first_lighter p t (node_forms W r p t)

-- of the row of a number, and of any
abbrev pub OfferedHere : VariableSet → Position → Tree → ℕ → Option LogRow → Type 0
OfferedHere W p t n None = (r : LogRow) → row_numbered n ≡ Some r → made_here W p t r ≡ None
OfferedHere W p t n (Some r) = is_some (made_here W p t r) ≡ true

abbrev pub AnyOffered : VariableSet → Position → Tree → Option LogRow → Type 0
AnyOffered W p t None = (r : LogRow) → made_here W p t r ≡ None
AnyOffered W p t (Some r) = is_some (made_here W p t r) ≡ true

-- none by the rows of the first numbers
abbrev pub NoneBefore : VariableSet → Position → Tree → ℕ → Type 0
NoneBefore W p t n = (k : ℕ) → k < n → (r : LogRow) → row_numbered k ≡ Some r → made_here W p t r ≡ None

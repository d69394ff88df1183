-- What the code asks of a statement in its list, or of a branch or a body.
use Rattle.std.specs.Prelude.{ℕ, ◌+◌, Bool, ◌&&◌, ◌||◌, nat_eq, nat_lt, Option, Some, None, if◌then◌else◌}
use Rattle.mini_model.specs.Tree.{Tree, Trees, count, children, child_or_absent, shape_of}
use Rattle.mini_node.specs.Children.{part, is_bare}
use Rattle.mini_node.specs.Kinds.{is_block, is_empty_statement}
use Rattle.mini_rows.specs.Lists.{are_unscoped}
use Rattle.mini_log.specs.ListRows.{is_export_shape, is_for_shape, is_joinable, is_let}
use Rattle.mini_log.specs.Walk.{spot}
use Rattle.mini_recorded.specs.Declaring.{place_of}
use Rattle.mini_recorded.specs.Unwrapping.{unwraps}
use Rattle.mini_replay.specs.declared.seeking.Beside.{Beside}
use Rattle.mini_logged.specs.Offers.{let_row, export_row, empty_row, block_row}

abbrev pub bares_let : Tree → Bool
bares_let t = is_let t && nat_lt (place_of (children (part t 0))) (count (children (part t 0)))

abbrev pub bares_export : Tree → Bool
bares_export t = (is_export_shape (shape_of t) && is_bare t 3) && bares_let (part t 0)

abbrev pub bares_head : Tree → ℕ → Bool
bares_head t i = (nat_eq (spot (children t) i) 0 && (is_for_shape (shape_of t) && is_bare t 4)) && bares_let (part t 0)

abbrev pub joins : Bool → Trees → ℕ → Bool
joins sequences ts i = nat_lt (i + 1) (count ts) && (sequences && (is_joinable (child_or_absent ts i) && is_joinable (child_or_absent ts (i + 1))))

abbrev pub spreads : Tree → Bool
spreads t = is_block t && are_unscoped (children (part t 0))

-- of the statement at an index of a list, and of the branch or body of one
abbrev pub site_at : Bool → Trees → ℕ → Option Beside
site_at sequences ts i =
    if bares_let (child_or_absent ts i) then Some let_row else
    if bares_export (child_or_absent ts i) then Some export_row else
    if is_empty_statement (child_or_absent ts i) || joins sequences ts i then Some empty_row else
    if spreads (child_or_absent ts i) then Some block_row else None

abbrev pub site_held : Tree → ℕ → Option Beside
site_held t i = if bares_head t i then Some let_row else if unwraps t (spot (children t) i) then Some block_row else None

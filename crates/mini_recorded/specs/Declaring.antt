-- The first declarator that begins as undefined.
use Rattle.std.specs.Prelude.{ℕ, suc, if◌then◌else◌}
use Rattle.mini_model.specs.Tree.{Trees, none, ◌▸◌}
use Rattle.mini_log.specs.ListRows.{begins_undefined}

-- its place; the number of all where none does
abbrev pub place_of : Trees → ℕ
place_of none = 0
place_of (d ▸ ds) = if begins_undefined d then 0 else suc (place_of ds)

-- 21, of a first part that has no effect before a last one that may not stand alone:
-- `(null, a.b)()` becomes `(0, a.b)()`, where that is lighter.
use Rattle.std.specs.Prelude.{Bool, ◌&&◌, Option, Some, None, if◌then◌else◌}
use Rattle.mini_model.specs.declared.seat.Seat.{Seat}
use Rattle.mini_model.specs.Tree.{Tree}
use Rattle.mini_terms.specs.Exact.{by_value}
use Rattle.mini_terms.specs.Folds.{is_effect_free}
use Rattle.mini_terms.specs.Parts.{leaves_nothing}
use Rattle.mini_choices.specs.MinimizeConditionalBranches.{is_lighter}
use Rattle.mini_choices.specs.MinimizeHeldBranches.{is_pair, item}

-- it does nothing, and leaves nothing behind
abbrev pub is_idle : Tree → Bool
is_idle t = is_effect_free t && leaves_nothing t

-- `a, b`, where a does nothing
abbrev pub follows_idle : Tree → Bool
follows_idle t = is_pair t && is_idle (item t 0)

-- `0, b` of it
abbrev pub behind_zero : Tree → Tree
behind_zero t = by_value (item t 1)

abbrev pub is_shortened : Seat → Tree → Bool
is_shortened s t = follows_idle t && is_lighter s (behind_zero t) t

abbrev pub written : Seat → Tree → Option Tree
written s t = if is_shortened s t then Some (behind_zero t) else None

-- 10, `fold_chain_expr`: `null?.a` becomes `void 0`, and `(void f())?.a.b.c.d` becomes
-- `void f(), void 0`, whatever links stand outside; and 64 and 11 (`ChainLinks.antt`).
use Rattle.std.specs.Prelude.{Bool, true, false, not, ◌&&◌, ◌||◌, Option, Some, if◌then◌else◌}
use Rattle.mini_model.specs.declared.seat.Seat.{Seat}
use Rattle.mini_model.specs.Tree.{Tree, Trees, node, none, ◌▸◌, absent, child_or_absent}
use Rattle.mini_node.specs.Children.{part}
use Rattle.mini_terms.specs.Folds.{is_effect_free}
use Rattle.mini_terms.specs.Reading.{stands}
use Rattle.mini_rows.specs.Lists.{encloses}
use Rattle.mini_rows.specs.Spellings.{void_zero}
use Rattle.mini_rows.specs.Chains.{is_calm}
use Rattle.mini_rows.specs.ChainEnds.{is_nothing}
use Rattle.mini_rows.specs.Choices.{pair}
use Rattle.mini_choices.specs.ChainLinks.{is_chain, is_step, is_marked, folded_written}
use Rattle.mini_choices.specs.MinimizeConditionalBranches.{is_lighter}

-- one of the links is optional over what is known to be null or undefined
abbrev mutual
  pub ends_at_once : Tree → Bool
  ends_at_once (node h xs n ts) = is_step (node h xs n ts) && ((is_marked h && is_nothing (child_or_absent ts 0)) || ends_in ts)

  pub ends_in : Trees → Bool
  ends_in none = false
  ends_in (t ▸ ts) = ends_at_once t

-- what stands before the links
abbrev mutual
  pub base_of : Tree → Tree
  base_of (node h xs n ts) = if is_step (node h xs n ts) then base_in ts else node h xs n ts

  pub base_in : Trees → Tree
  base_in none = absent
  base_in (t ▸ ts) = base_of t

-- the names, keys and arguments of the links take along the names in them that can't be written
abbrev mutual
  pub links_enclose : Tree → Bool
  links_enclose (node h xs n ts) = not (is_step (node h xs n ts)) || (encloses false (child_or_absent ts 1) && links_in ts)

  pub links_in : Trees → Bool
  links_in none = true
  links_in (t ▸ ts) = links_enclose t

-- links that end at once, over what has no effect, go with such names
abbrev pub ends_idly : Tree → Bool
ends_idly t = ends_at_once t && (is_effect_free (base_of t) && encloses false t)

abbrev pub may_end : Tree → Bool
may_end t = is_chain t && ends_idly (part t 0)

-- it has an effect, is read by its value alone, and ends no chain
abbrev pub acts : Tree → Bool
acts x = not (is_effect_free x) && (stands x && is_calm x)

-- of links that end at once, over what has an effect, that alone is left
abbrev pub ends_after : Tree → Bool
ends_after t = ends_at_once t && (acts (base_of t) && links_enclose t)

abbrev pub may_end_after : Tree → Bool
may_end_after t = is_chain t && ends_after (part t 0)

-- `void f(), void 0`
abbrev pub base_then : Tree → Tree
base_then t = pair (base_of (part t 0)) void_zero

abbrev pub after_written : Seat → Tree → Option Tree
after_written s t = if may_end_after t && is_lighter s (base_then t) t then Some (base_then t) else folded_written s t

abbrev pub written : Seat → Tree → Option Tree
written s t = if may_end t && is_lighter s void_zero t then Some void_zero else after_written s t

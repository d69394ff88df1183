-- Of neighbours in a list that are rewritten, only these are asked: what stands before and after
-- them stays.
use Rattle.std.specs.Prelude.{◌≡◌, Bool, true, false, ◌&&◌, []}
use Rattle.mini_model.specs.declared.shape.Shape.TheVariants as shape
use Rattle.mini_model.specs.Tree.{Trees, none, ◌▸◌, listed}
use Rattle.mini_model.specs.Paths.{append}
use Rattle.mini_laws.specs.Resolved.{Environment}
use Rattle.mini_rows.specs.Sketches.{under, Items, no_items, item, is_statement_head}
use Rattle.mini_shrink.specs.Pace.{Pace, Silent, followed, ends_after, AtMost, Setting, Question, pace}

-- a list says nothing itself, and hands on what is around
pub record PassesLists (q : Question) : Type 0 where
  pub silent : (c : Setting) (env : Environment) (ts : Trees) → q.before c env shape.Listed [] 0 ts ≡ Silent
  pub orders : Setting → Bool
  pub ordered : (c : Setting) (ts : Trees) → q.orders c shape.Listed ts ≡ orders c

-- around the items of a list
abbrev pub of_items : Bool → Setting → Setting
of_items o c = record c { belongs = c.belongs && true; ordered = o }

-- some items in order
abbrev pub items_say : Question → Setting → Environment → Trees → Pace
items_say q c env none = Silent
items_say q c env (t ▸ ts) = followed (ends_after (q.ends c t) (pace q c env t)) (items_say q c env ts)

abbrev pub NeighboursAskLess : Type 0
NeighboursAskLess =
    (q : Question) (k : PassesLists q) (c : Setting) (env : Environment) (before after a b : Trees) → AtMost (items_say q (of_items (k.orders c) c) env b) (items_say q (of_items (k.orders c) c) env a)
    → AtMost (pace q c env (listed (append before (append b after)))) (pace q c env (listed (append before (append a after))))

-- neighbours that are built anew of the same parts, none of which is itself a statement of the list
abbrev pub are_headed : Items → Bool
are_headed no_items = true
are_headed (item (under h ss) is) = is_statement_head h && are_headed is
are_headed is = false

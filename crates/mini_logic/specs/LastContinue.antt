-- 78 of loops, `remove_last_continue`: `while (a) { b(); continue; }` becomes `while (a) { b(); }`,
-- and `while (a) continue;` becomes `while (a);`.
use Rattle.std.specs.Prelude.{ℕ, Bool, true, false, ◌&&◌, ◌||◌, Option, Some, None, option_map, if◌then◌else◌}
use Rattle.mini_model.specs.declared.shape.Shape.{Shape}
use Rattle.mini_model.specs.declared.shape.Shape.TheVariants as shape
use Rattle.mini_model.specs.Tree.{Tree, Trees, none, ◌▸◌, absent, empty_statement, shape_of, children}
use Rattle.mini_node.specs.Children.{part, is_bare, like, with_child}
use Rattle.mini_node.specs.Kinds.{is_absent_part, is_block}
use Rattle.mini_rows.specs.Lists.{block}
use Rattle.mini_logic.specs.UnwrapBlock.{some_if, body_place}

abbrev pub is_continue_shape : Shape → Bool
is_continue_shape shape.ContinueStatement = true
is_continue_shape _ = false

-- `continue;`
abbrev pub goes_on : Tree → Bool
goes_on t = is_continue_shape (shape_of t) && (is_bare t 1 && is_absent_part (part t 0))

-- the last one, or nothing, and those before it
abbrev pub last_of : Trees → Tree
last_of none = absent
last_of (t ▸ none) = t
last_of (t ▸ (u ▸ ts)) = last_of (u ▸ ts)

abbrev pub before_last : Trees → Trees
before_last none = none
before_last (t ▸ none) = none
before_last (t ▸ (u ▸ ts)) = t ▸ before_last (u ▸ ts)

-- `{ a; continue; }`
abbrev pub ends_going : Tree → Bool
ends_going b = is_block b && goes_on (last_of (children (part b 0)))

-- either of them
abbrev pub is_idle_end : Tree → Bool
is_idle_end b = goes_on b || ends_going b

-- what is left of it
abbrev pub left_of : Tree → Tree
left_of b = if goes_on b then empty_statement else block (before_last (children (part b 0)))

-- the place, where the child there is one
abbrev pub idle_at : Tree → Option ℕ → Option ℕ
idle_at t None = None
idle_at t (Some i) = some_if (is_idle_end (part t i)) i

abbrev pub place : Tree → Option ℕ
place t = idle_at t (body_place t)

abbrev pub left_at : Tree → ℕ → Tree
left_at t i = like t (with_child (children t) i (left_of (part t i)))

abbrev pub written : Tree → Option Tree
written t = option_map (left_at t) (place t)

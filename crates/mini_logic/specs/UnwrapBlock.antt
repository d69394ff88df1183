-- 79 of branches and bodies, `unwrap_block`: `if (a) { b(); } else { c(); }` becomes
-- `if (a) b(); else c();`, a branch at a time, and `while (a) { b(); }` becomes `while (a) b();`.
use Rattle.std.specs.Prelude.{ℕ, Bool, ◌&&◌, not, Option, Some, None, option_map, if◌then◌else◌}
use Rattle.mini_model.specs.declared.shape.Shape.{Shape}
use Rattle.mini_model.specs.declared.shape.Shape.TheVariants as shape
use Rattle.mini_model.specs.Tree.{Tree, shape_of, children}
use Rattle.mini_node.specs.Children.{part, is_bare, like, with_child}
use Rattle.mini_node.specs.Kinds.{is_block, is_if_statement}
use Rattle.mini_rows.specs.Branches.{has_else}
use Rattle.mini_rows.specs.Lists.{is_unscoped}
use Rattle.mini_logic.specs.Negating.{has_one}

-- the first statement of a block
abbrev pub first_statement : Tree → Tree
first_statement t = part (part t 0) 0

-- `{ a; }`, of a statement that isn't scoped
abbrev pub holds_one : Tree → Bool
holds_one t = is_block t && (has_one (children (part t 0)) && is_unscoped (first_statement t))

-- and that is no `if` with `else`
abbrev pub holds_bare : Tree → Bool
holds_bare t = holds_one t && not (has_else (first_statement t))

abbrev pub some_if : Bool → ℕ → Option ℕ
some_if b i = if b then Some i else None

-- the place of the body of a loop
abbrev pub body_by : Shape → Tree → Option ℕ
body_by shape.WhileStatement t = some_if (is_bare t 2) 1
body_by shape.DoWhileStatement t = some_if (is_bare t 2) 0
body_by shape.ForStatement t = some_if (is_bare t 4) 3
body_by shape.ForInStatement t = some_if (is_bare t 3) 2
body_by shape.ForOfStatement t = some_if (is_bare t 3) 2
body_by h t = None

abbrev pub body_place : Tree → Option ℕ
body_place t = body_by (shape_of t) t

-- the place, where the child there is a block of one
abbrev pub held_at : Tree → Option ℕ → Option ℕ
held_at t None = None
held_at t (Some i) = some_if (holds_one (part t i)) i

-- the branch of an `if` that is a block of one: the consequent, if it holds no `if` with `else`, or
-- the alternate
abbrev pub branch_place : Tree → Option ℕ
branch_place t = if holds_bare (part t 1) then Some 1 else some_if (holds_one (part t 2)) 2

-- the place of the child whose block goes
abbrev pub place : Tree → Option ℕ
place t = if is_if_statement t then branch_place t else held_at t (body_place t)

-- with the statement in the place of the block
abbrev pub unwrapped_at : Tree → ℕ → Tree
unwrapped_at t i = like t (with_child (children t) i (first_statement (part t i)))

abbrev pub written : Tree → Option Tree
written t = option_map (unwrapped_at t) (place t)

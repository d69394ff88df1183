-- 84, `minimize_for_statement`: `for (i; t; u) { if (x) break; s }` becomes
-- `for (i; t && !x; u) { s }`.
use Rattle.std.specs.Prelude.{Bool, true, false, ◌&&◌, ◌||◌, Option, Some, None, [], if◌then◌else◌}
use Rattle.mini_model.specs.declared.operator.LogicalOperator.TheVariants.{And}
use Rattle.mini_model.specs.declared.shape.Shape.{Shape}
use Rattle.mini_model.specs.declared.shape.Shape.TheVariants as shape
use Rattle.mini_model.specs.Tree.{Tree, node, shape_of, children, child_or_absent, empty_statement, negation, logical}
use Rattle.mini_node.specs.Children.{part, is_bare, with_child}
use Rattle.mini_node.specs.Kinds.{is_absent_part, is_block, is_if_statement}
use Rattle.mini_rows.specs.Lists.{block, is_unscoped, are_unscoped}
use Rattle.mini_rows.specs.Loops.{is_there, is_test}

abbrev pub is_break_shape : Shape → Bool
is_break_shape shape.BreakStatement = true
is_break_shape _ = false

-- `break;`
abbrev pub leaves_now : Tree → Bool
leaves_now t = is_break_shape (shape_of t) && (is_bare t 1 && is_absent_part (part t 0))

-- of an `if`: `if (x) break;`, with or without `else`
abbrev pub leaves_first : Tree → Bool
leaves_first i = leaves_now (part i 1) && (is_absent_part (part i 2) || is_unscoped (part i 2))

-- and `if (x) s; else break;`
abbrev pub leaves_last : Tree → Bool
leaves_last i = leaves_now (part i 2) && is_unscoped (part i 1)

abbrev pub leaves : Tree → Bool
leaves t = is_if_statement t && ((leaves_first t || leaves_last t) && is_test (part t 0))

-- the first statement of a block, whatever the others are
abbrev pub leads : Tree → Bool
leads b = is_block b && leaves (child_or_absent (children (part b 0)) 0)

abbrev pub body_leads : Tree → Bool
body_leads b = leaves b || leads b

-- and that of a block of statements none of which is scoped
abbrev pub begins_leaving : Tree → Bool
begins_leaving b = leads b && are_unscoped (children (part b 0))

abbrev pub body_leaves : Tree → Bool
body_leaves b = leaves b || begins_leaving b

abbrev pub is_for_shape : Shape → Bool
is_for_shape shape.ForStatement = true
is_for_shape _ = false

abbrev pub is_for : Tree → Bool
is_for t = is_for_shape (shape_of t) && is_bare t 4

abbrev pub may_test : Tree → Bool
may_test t = is_absent_part t || is_there t

-- its body begins by leaving it, whatever is in the body
abbrev pub is_leading_for : Tree → Bool
is_leading_for t = is_for t && (may_test (part t 1) && body_leads (part t 3))

-- and that is a block
abbrev pub leads_from_block : Tree → Bool
leads_from_block t = is_for t && (may_test (part t 1) && leads (part t 3))

-- nothing in the body is scoped
abbrev pub is_leaving_for : Tree → Bool
is_leaving_for t = is_for t && (may_test (part t 1) && body_leaves (part t 3))

-- ---- what is written

-- of an `if`: the test by which the loop goes on, and what is run then
abbrev pub goes : Tree → Tree
goes i = if leaves_first i then negation (part i 0) else part i 0

abbrev pub or_empty : Tree → Tree
or_empty s = if is_absent_part s then empty_statement else s

abbrev pub runs : Tree → Tree
runs i = if leaves_first i then or_empty (part i 2) else part i 1

-- of a body
abbrev pub body_goes : Tree → Tree
body_goes b = if is_block b then goes (child_or_absent (children (part b 0)) 0) else goes b

abbrev pub body_runs : Tree → Tree
body_runs b = if is_block b then block (with_child (children (part b 0)) 0 (runs (child_or_absent (children (part b 0)) 0))) else runs b

-- with another test beside it
abbrev pub also : Tree → Tree → Tree
also t x = if is_absent_part t then x else logical And t x

abbrev pub with_test : Tree → Tree
with_test t = node shape.ForStatement [] 0 (with_child (with_child (children t) 3 (body_runs (part t 3))) 1 (also (part t 1) (body_goes (part t 3))))

abbrev pub written : Tree → Option Tree
written t = if is_leaving_for t then Some (with_test t) else None

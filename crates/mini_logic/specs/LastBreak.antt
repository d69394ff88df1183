-- 78 of a `do` that is run once, `remove_last_break`: `do { a(); break; } while (0);` becomes
-- `do { a(); } while (0);`, and `do break; while (0);` becomes `do ; while (0);`.
use Rattle.std.specs.Prelude.{Bool, true, false, not, ◌&&◌, ◌||◌, Option, Some, None, if◌then◌else◌}
use Rattle.mini_model.specs.declared.shape.Shape.{Shape}
use Rattle.mini_model.specs.declared.shape.Shape.TheVariants as shape
use Rattle.mini_model.specs.Tree.{Tree, empty_statement, shape_of, children}
use Rattle.mini_node.specs.Children.{part, is_bare, like, with_child}
use Rattle.mini_node.specs.Kinds.{is_absent_part, is_block}
use Rattle.mini_laws.specs.Value.{Value, truth}
use Rattle.mini_terms.specs.Calculated.{operand_value}
use Rattle.mini_rows.specs.Lists.{block}
use Rattle.mini_logic.specs.LastContinue.{last_of, before_last}

-- ---- a test that gives a false value

abbrev pub is_false : Option Value → Bool
is_false (Some v) = not (truth v)
is_false None = false

-- and does nothing else
abbrev pub fails : Tree → Bool
fails t = is_false (operand_value t)

-- ---- the end of the body

abbrev pub is_break_shape : Shape → Bool
is_break_shape shape.BreakStatement = true
is_break_shape _ = false

-- `break;`
abbrev pub breaks : Tree → Bool
breaks t = is_break_shape (shape_of t) && (is_bare t 1 && is_absent_part (part t 0))

-- `{ a; break; }`
abbrev pub ends_breaking : Tree → Bool
ends_breaking b = is_block b && breaks (last_of (children (part b 0)))

-- either of them
abbrev pub is_broken_end : Tree → Bool
is_broken_end b = breaks b || ends_breaking b

-- what is left of it
abbrev pub left_of : Tree → Tree
left_of b = if breaks b then empty_statement else block (before_last (children (part b 0)))

-- ---- the `do`

abbrev pub is_do_shape : Shape → Bool
is_do_shape shape.DoWhileStatement = true
is_do_shape _ = false

-- `do a while (b);`
abbrev pub is_do : Tree → Bool
is_do t = is_do_shape (shape_of t) && is_bare t 2

abbrev pub is_broken : Tree → Bool
is_broken t = is_do t && is_broken_end (part t 0)

abbrev pub is_read : Tree → Bool
is_read t = is_broken t && fails (part t 1)

abbrev pub left_in : Tree → Tree
left_in t = like t (with_child (children t) 0 (left_of (part t 0)))

abbrev pub written : Tree → Option Tree
written t = if is_read t then Some (left_in t) else None

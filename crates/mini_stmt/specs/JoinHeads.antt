-- 67: `a; return b;` becomes `return a, b;`, and so with the heads of `throw`, `if`, `switch`,
-- `for` and `for..in`.
use Rattle.std.specs.Prelude.{Bool, true, false, ◌&&◌, ◌||◌}
use Rattle.mini_model.specs.declared.shape.Shape.{Shape}
use Rattle.mini_model.specs.declared.shape.Shape.TheVariants as shape
use Rattle.mini_model.specs.Tree.{Tree, shape_of}
use Rattle.mini_node.specs.Children.{part, with_part, is_bare}
use Rattle.mini_node.specs.Kinds.{is_absent_part, is_return_statement, is_throw_statement, is_if_statement}
use Rattle.mini_rows.specs.Lists.{is_plain_left}
use Rattle.mini_stmt.specs.Terms.{is_joinable, joined}

abbrev pub is_switch_shape : Shape → Bool
is_switch_shape shape.SwitchStatement = true
is_switch_shape _ = false

abbrev pub is_for_shape : Shape → Bool
is_for_shape shape.ForStatement = true
is_for_shape _ = false

abbrev pub is_for_in_shape : Shape → Bool
is_for_in_shape shape.ForInStatement = true
is_for_in_shape _ = false

-- `switch (a) { b }`
abbrev pub is_switch : Tree → Bool
is_switch t = is_switch_shape (shape_of t) && is_bare t 2

-- `for (a; b; c) d`
abbrev pub is_for : Tree → Bool
is_for t = is_for_shape (shape_of t) && is_bare t 4

-- `for (a in b) c`
abbrev pub is_for_in : Tree → Bool
is_for_in t = is_for_in_shape (shape_of t) && is_bare t 3

-- the first child is the head
abbrev pub has_head : Tree → Bool
has_head t = is_return_statement t || (is_throw_statement t || (is_if_statement t || (is_switch t || is_for t)))

-- an expression may be joined to the one in the head
abbrev pub has_joinable_head : Tree → Bool
has_joinable_head u = has_head u && is_joinable (part u 0)

-- `for (; b; c) d`
abbrev pub has_free_init : Tree → Bool
has_free_init u = is_for u && is_absent_part (part u 0)

-- `return a, b;`, of `a;` and `return b;`
abbrev pub with_joined_head : Tree → Tree → Tree
with_joined_head t u = with_part u 0 (joined (part t 0) (part u 0))

-- `for (a; b; c) d`, of `a;` and `for (; b; c) d`
abbrev pub with_init : Tree → Tree → Tree
with_init t u = with_part u 0 (part t 0)

-- `for (x in b) c`, where an expression may be joined to b
abbrev pub has_joinable_right : Tree → Bool
has_joinable_right u = is_for_in u && (is_plain_left (part u 0) && is_joinable (part u 1))

-- `for (x in a, b) c`, of `a;` and `for (x in b) c`
abbrev pub with_joined_right : Tree → Tree → Tree
with_joined_right t u = with_part u 1 (joined (part t 0) (part u 1))

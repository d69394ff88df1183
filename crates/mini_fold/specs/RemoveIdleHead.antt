-- 22, of the head of a `for`: `for (0; a; b) c` becomes `for (; a; b) c`, and `for (; a; i) c`
-- becomes `for (; a;) c`.
use Rattle.std.specs.Prelude.{ℕ, Bool, true, false, ◌&&◌, ◌||◌, Option, Some, None, [], if◌then◌else◌}
use Rattle.mini_model.specs.declared.shape.Shape.{Shape}
use Rattle.mini_model.specs.declared.shape.Shape.TheVariants as shape
use Rattle.mini_model.specs.Tree.{Tree, node, shape_of, children, absent}
use Rattle.mini_node.specs.Children.{part, is_bare, with_child}
use Rattle.mini_rows.specs.ForParts.{is_idle}

abbrev pub is_for_shape : Shape → Bool
is_for_shape shape.ForStatement = true
is_for_shape _ = false

abbrev pub is_for : Tree → Bool
is_for t = is_for_shape (shape_of t) && is_bare t 4

-- it begins with what does nothing
abbrev pub begins_idly : Tree → Bool
begins_idly t = is_for t && is_idle (part t 0)

-- or does nothing after each turn
abbrev pub turns_idly : Tree → Bool
turns_idly t = is_for t && is_idle (part t 2)

abbrev pub has_idle_head : Tree → Bool
has_idle_head t = begins_idly t || turns_idly t

-- without the part at a place
abbrev pub without : ℕ → Tree → Tree
without i t = node shape.ForStatement [] 0 (with_child (children t) i absent)

abbrev pub written : Tree → Option Tree
written t = if begins_idly t then Some (without 0 t) else (if turns_idly t then Some (without 2 t) else None)

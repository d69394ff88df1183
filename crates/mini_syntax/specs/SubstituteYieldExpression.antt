-- 60 of `yield`, `substitute_yield_expression`: `yield void 0` becomes `yield`.
use Rattle.std.specs.Prelude.{Bool, true, false, ◌&&◌, Option, Some, None, if◌then◌else◌}
use Rattle.mini_model.specs.declared.shape.Shape.{Shape}
use Rattle.mini_model.specs.declared.shape.Shape.TheVariants as shape
use Rattle.mini_model.specs.Tree.{Tree, absent, shape_of}
use Rattle.mini_node.specs.Children.{part, is_bare}
use Rattle.mini_rows.specs.Spellings.{yields}
use Rattle.mini_syntax.specs.Forms.{is_void_zero}

abbrev pub is_yield_shape : Shape → Bool
is_yield_shape (shape.YieldExpression false) = true
is_yield_shape _ = false

-- `yield void 0`
abbrev pub yields_void_zero : Tree → Bool
yields_void_zero t = is_yield_shape (shape_of t) && (is_bare t 1 && is_void_zero (part t 0))

abbrev pub written : Tree → Option Tree
written t = if yields_void_zero t then Some (yields absent) else None

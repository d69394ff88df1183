-- 54, `substitute_swap_binary_expressions`: `1 == b` becomes `b == 1`, of the four equalities.
use Rattle.std.specs.Prelude.{Bool, true, false, not, ◌&&◌, nat_eq, ℕ, Option, Some, None, if◌then◌else◌}
use Rattle.mini_model.specs.declared.operator.BinaryOperator.{BinaryOperator}
use Rattle.mini_model.specs.declared.operator.UnaryOperator.TheVariants.{Void}
use Rattle.mini_model.specs.declared.shape.Shape.{Shape}
use Rattle.mini_model.specs.declared.shape.Shape.TheVariants as shape
use Rattle.mini_model.specs.Tree.{Tree, Trees, node, shape_of, count}
use Rattle.mini_model.specs.Position.{is_equality}
use Rattle.mini_model.specs.Weight.{is_zero_number}
use Rattle.mini_node.specs.Children.{part}
use Rattle.mini_node.specs.Kinds.{binary, binary_operator}
use Rattle.mini_syntax.specs.Forms.{is_plain}

-- the items of a list, if it is one
abbrev pub items_by : Shape → Trees → ℕ
items_by shape.Listed ts = count ts
items_by _ ts = 0

abbrev pub items : Tree → ℕ
items (node h xs n ts) = items_by h ts

abbrev pub is_zero_shape : Shape → Bool
is_zero_shape (shape.NumericLiteral n) = is_zero_number n
is_zero_shape _ = false

-- what is awkward on the left of an equality: it is plain, or a sequence
abbrev pub is_awkward_by : Shape → Tree → Bool
is_awkward_by (shape.NumericLiteral n) t = true
is_awkward_by (shape.StringLiteral s) t = true
is_awkward_by (shape.BooleanLiteral b) t = true
is_awkward_by shape.NullLiteral t = true
is_awkward_by (shape.BigIntLiteral n) t = true
is_awkward_by shape.TemplateLiteral t = nat_eq (items (part t 1)) 0
is_awkward_by (shape.UnaryExpression Void) t = is_zero_shape (shape_of (part t 0))
is_awkward_by shape.SequenceExpression t = true
is_awkward_by shape.InnerExpression t = true
is_awkward_by _ t = false

-- it may stand on the left as well as on the right
abbrev pub is_ready : Tree → Bool
is_ready t = not (is_awkward_by (shape_of t) t)

abbrev pub swapped_in : Option BinaryOperator → Tree → Tree → Option BinaryOperator
swapped_in (Some o) a b = if is_equality o && (is_plain a && is_ready b) then Some o else None
swapped_in None a b = None

-- the operator, where the sides swap
abbrev pub swapped_operator : Tree → Option BinaryOperator
swapped_operator t = swapped_in (binary_operator t) (part t 0) (part t 1)

abbrev pub written_by : Option BinaryOperator → Tree → Tree → Option Tree
written_by (Some o) a b = Some (binary o b a)
written_by None a b = None

abbrev pub written : Tree → Option Tree
written t = written_by (swapped_operator t) (part t 0) (part t 1)

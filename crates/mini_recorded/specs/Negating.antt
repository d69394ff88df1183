-- The negation of an expression, by its kind.
use Rattle.std.specs.Prelude.{Bool, true, false, ◌&&◌, ◌||◌, Option, Some, None}
use Rattle.mini_model.specs.declared.operator.BinaryOperator.{BinaryOperator}
use Rattle.mini_model.specs.declared.operator.BinaryOperator.TheVariants as binary
use Rattle.mini_model.specs.declared.operator.LogicalOperator.{LogicalOperator}
use Rattle.mini_model.specs.declared.operator.LogicalOperator.TheVariants.{Or, And}
use Rattle.mini_model.specs.declared.seat.Seat.{Seat}
use Rattle.mini_model.specs.declared.shape.Shape.{Shape}
use Rattle.mini_model.specs.declared.shape.Shape.TheVariants as shape
use Rattle.mini_model.specs.Tree.{Tree, Trees, node, none, ◌▸◌, children}
use Rattle.mini_model.specs.Position.{operand_seat}
use Rattle.mini_model.specs.Terms.{is_boolean, has_negated_result, neg_each}
use Rattle.mini_node.specs.Children.{names_of, number_of, part}

abbrev pub has_one : Trees → Bool
has_one (t ▸ none) = true
has_one _ = false

-- the operator that a negation turns a logical expression's into, if it does
abbrev pub turned_by : Shape → Option LogicalOperator
turned_by (shape.LogicalExpression And) = Some Or
turned_by (shape.LogicalExpression Or) = Some And
turned_by _ = None

-- the operands negated under the other operator
abbrev pub turned_over : LogicalOperator → Seat → Tree → Tree
turned_over o s t = node (shape.LogicalExpression o) (names_of t) (number_of t) (neg_each (operand_seat o s) (children t))

-- the operator that a negation turns an equality's into
abbrev pub opposite_by : Shape → Option BinaryOperator
opposite_by (shape.BinaryExpression binary.Equality) = Some binary.Inequality
opposite_by (shape.BinaryExpression binary.Inequality) = Some binary.Equality
opposite_by (shape.BinaryExpression binary.StrictEquality) = Some binary.StrictInequality
opposite_by (shape.BinaryExpression binary.StrictInequality) = Some binary.StrictEquality
opposite_by _ = None

-- the equality under another operator
abbrev pub opposed : BinaryOperator → Tree → Tree
opposed o t = node (shape.BinaryExpression o) (names_of t) (number_of t) (children t)

-- `!a`, whose negation is a
abbrev pub is_unwrapped : Seat → Tree → Bool
is_unwrapped s t = has_negated_result t && (has_one (children t) && (s.boolean || is_boolean (part t 0)))

-- `||` for `&&`, and `&&` for `||`
abbrev pub junction_of : Option LogicalOperator → Option LogicalOperator
junction_of (Some And) = Some Or
junction_of (Some Or) = Some And
junction_of _ = None

-- What kind of node it is, and what a node of a kind is made of.
use Rattle.std.specs.Prelude.{ℕ, zero, ◌∷◌, nat_eq, List, Option, Some, None, if◌then◌else◌, ℤ, Bool, true, false, [], ◌&&◌}
use Rattle.mini_model.specs.declared.operator.LogicalOperator.{LogicalOperator}
use Rattle.mini_model.specs.declared.operator.LogicalOperator.TheVariants.{Or, And, Coalesce}
use Rattle.mini_model.specs.declared.name.Name.{Name}
use Rattle.mini_model.specs.declared.name.SymbolId.{SymbolId}
use Rattle.mini_model.specs.declared.operator.AssignmentOperator.{AssignmentOperator}
use Rattle.mini_model.specs.declared.operator.BinaryOperator.{BinaryOperator}
use Rattle.mini_model.specs.declared.operator.UnaryOperator.{UnaryOperator}
use Rattle.mini_model.specs.declared.operator.UnaryOperator.TheVariants.{LogicalNot}
use Rattle.mini_model.specs.declared.shape.Shape.{Shape}
use Rattle.mini_model.specs.declared.shape.Shape.TheVariants as shape
use Rattle.mini_model.specs.Tree.{Tree, Trees, node, none, ◌▸◌, shape_of, is_absent_shape, leaf, listed}
use Rattle.mini_node.specs.Children.{is_bare, is_nameless, part}

-- Reading definitions, beside those of the plain form

abbrev pub sequence : Trees → Tree
sequence parts = node shape.SequenceExpression [] 0 (listed parts ▸ none)

abbrev pub block : Trees → Tree
block body = node shape.BlockStatement [] 0 (listed body ▸ none)

-- of an argument that may be absent
abbrev pub return_statement : Tree → Tree
return_statement argument = node shape.ReturnStatement [] 0 (argument ▸ none)

abbrev pub throw_statement : Tree → Tree
throw_statement argument = node shape.ThrowStatement [] 0 (argument ▸ none)

abbrev pub binary : BinaryOperator → Tree → Tree → Tree
binary o a b = node (shape.BinaryExpression o) [] 0 (a ▸ b ▸ none)

abbrev pub assignment : AssignmentOperator → Tree → Tree → Tree
assignment o a b = node (shape.AssignmentExpression o) [] 0 (a ▸ b ▸ none)

-- the property is the node of its name
abbrev pub static_member : Tree → Tree → Tree
static_member object property = node (shape.StaticMemberExpression false) [] 0 (object ▸ property ▸ none)

abbrev pub computed_member : Tree → Tree → Tree
computed_member object property = node (shape.ComputedMemberExpression false) [] 0 (object ▸ property ▸ none)

abbrev pub numeric_literal : ℤ → Tree
numeric_literal n = leaf (shape.NumericLiteral n)

abbrev pub boolean_literal : Bool → Tree
boolean_literal b = leaf (shape.BooleanLiteral b)

abbrev pub string_literal : List ℕ → Tree
string_literal s = leaf (shape.StringLiteral s)

-- Shapes

abbrev pub is_listed_shape : Shape → Bool
is_listed_shape shape.Listed = true
is_listed_shape _ = false

abbrev pub is_negation_shape : Shape → Bool
is_negation_shape (shape.UnaryExpression LogicalNot) = true
is_negation_shape _ = false

abbrev pub same_logical : LogicalOperator → LogicalOperator → Bool
same_logical And And = true
same_logical Or Or = true
same_logical Coalesce Coalesce = true
same_logical _ _ = false

abbrev pub is_logical_shape : LogicalOperator → Shape → Bool
is_logical_shape o (shape.LogicalExpression p) = same_logical p o
is_logical_shape o _ = false

abbrev pub is_conditional_shape : Shape → Bool
is_conditional_shape shape.ConditionalExpression = true
is_conditional_shape _ = false

abbrev pub is_sequence_shape : Shape → Bool
is_sequence_shape shape.SequenceExpression = true
is_sequence_shape _ = false

abbrev pub is_expression_statement_shape : Shape → Bool
is_expression_statement_shape shape.ExpressionStatement = true
is_expression_statement_shape _ = false

abbrev pub is_empty_statement_shape : Shape → Bool
is_empty_statement_shape shape.EmptyStatement = true
is_empty_statement_shape _ = false

abbrev pub is_block_shape : Shape → Bool
is_block_shape shape.BlockStatement = true
is_block_shape _ = false

abbrev pub is_if_shape : Shape → Bool
is_if_shape shape.IfStatement = true
is_if_shape _ = false

abbrev pub is_return_shape : Shape → Bool
is_return_shape shape.ReturnStatement = true
is_return_shape _ = false

abbrev pub is_throw_shape : Shape → Bool
is_throw_shape shape.ThrowStatement = true
is_throw_shape _ = false

-- Kinds. The shape is asked first, then names, number and how many children there are, then the
-- children.

-- a part that is absent
abbrev pub is_absent_part : Tree → Bool
is_absent_part t = is_absent_shape (shape_of t) && is_bare t 0

-- the items of a list field
abbrev pub is_listed : Tree → Bool
is_listed t = is_listed_shape (shape_of t) && is_nameless t

-- `!a`
abbrev pub is_negation : Tree → Bool
is_negation t = is_negation_shape (shape_of t) && is_bare t 1

-- `a && b`, `a || b` or `a ?? b`
abbrev pub is_logical : LogicalOperator → Tree → Bool
is_logical o t = is_logical_shape o (shape_of t) && is_bare t 2

-- `a ? b : c`
abbrev pub is_conditional : Tree → Bool
is_conditional t = is_conditional_shape (shape_of t) && is_bare t 3

-- `a, b`
abbrev pub is_sequence : Tree → Bool
is_sequence t = is_sequence_shape (shape_of t) && (is_bare t 1 && is_listed (part t 0))

-- `a;`
abbrev pub is_expression_statement : Tree → Bool
is_expression_statement t = is_expression_statement_shape (shape_of t) && is_bare t 1

-- `;`
abbrev pub is_empty_statement : Tree → Bool
is_empty_statement t = is_empty_statement_shape (shape_of t) && is_bare t 0

-- `{ a; b; }`
abbrev pub is_block : Tree → Bool
is_block t = is_block_shape (shape_of t) && (is_bare t 1 && is_listed (part t 0))

-- `if (a) b else c`, or the same without `else`
abbrev pub is_if_statement : Tree → Bool
is_if_statement t = is_if_shape (shape_of t) && is_bare t 3

-- `if (a) b` without `else`
abbrev pub is_if_alone : Tree → Bool
is_if_alone t = is_if_statement t && is_absent_part (part t 2)

-- `return a;` or `return;`
abbrev pub is_return_statement : Tree → Bool
is_return_statement t = is_return_shape (shape_of t) && is_bare t 1

-- `throw a;`
abbrev pub is_throw_statement : Tree → Bool
is_throw_statement t = is_throw_shape (shape_of t) && is_bare t 1

-- ---- kinds that carry an operator, a name or a value

-- what a bare node carries
abbrev pub carried : {A : Type 0} → Option A → Bool → Option A
carried None bare = None
carried (Some x) bare = if bare then Some x else None

abbrev pub unary_in : Shape → Option UnaryOperator
unary_in (shape.UnaryExpression o) = Some o
unary_in _ = None

-- the operator of a unary expression
abbrev pub unary_operator : Tree → Option UnaryOperator
unary_operator t = carried (unary_in (shape_of t)) (is_bare t 1)

abbrev pub binary_in : Shape → Option BinaryOperator
binary_in (shape.BinaryExpression o) = Some o
binary_in _ = None

-- the operator of a binary expression
abbrev pub binary_operator : Tree → Option BinaryOperator
binary_operator t = carried (binary_in (shape_of t)) (is_bare t 2)

abbrev pub logical_in : Shape → Option LogicalOperator
logical_in (shape.LogicalExpression o) = Some o
logical_in _ = None

-- the operator of a logical expression
abbrev pub logical_operator : Tree → Option LogicalOperator
logical_operator t = carried (logical_in (shape_of t)) (is_bare t 2)

abbrev pub assignment_in : Shape → Option AssignmentOperator
assignment_in (shape.AssignmentExpression o) = Some o
assignment_in _ = None

-- the operator of an assignment
abbrev pub assignment_operator : Tree → Option AssignmentOperator
assignment_operator t = carried (assignment_in (shape_of t)) (is_bare t 2)

abbrev pub number_in : Shape → Option ℤ
number_in (shape.NumericLiteral n) = Some n
number_in _ = None

-- the value of a numeric literal
abbrev pub number : Tree → Option ℤ
number t = carried (number_in (shape_of t)) (is_bare t 0)

abbrev pub boolean_in : Shape → Option Bool
boolean_in (shape.BooleanLiteral b) = Some b
boolean_in _ = None

-- the value of a boolean literal
abbrev pub boolean : Tree → Option Bool
boolean t = carried (boolean_in (shape_of t)) (is_bare t 0)

abbrev pub string_in : Shape → Option (List ℕ)
string_in (shape.StringLiteral s) = Some s
string_in _ = None

-- the value of a string literal
abbrev pub string : Tree → Option (List ℕ)
string t = carried (string_in (shape_of t)) (is_bare t 0)

abbrev pub is_null_shape : Shape → Bool
is_null_shape shape.NullLiteral = true
is_null_shape _ = false

-- `null`
abbrev pub is_null : Tree → Bool
is_null t = is_null_shape (shape_of t) && is_bare t 0

abbrev pub is_identifier_shape : Shape → Bool
is_identifier_shape shape.Identifier = true
is_identifier_shape _ = false

-- it has a name, no number and no child
abbrev pub is_named_leaf : Tree → Bool
is_named_leaf (node h (x ∷ []) zero none) = true
is_named_leaf _ = false

-- a name that is read or written
abbrev pub is_identifier : Tree → Bool
is_identifier t = is_identifier_shape (shape_of t) && is_named_leaf t

abbrev pub is_call_shape : Shape → Bool
is_call_shape (shape.CallExpression false) = true
is_call_shape _ = false

-- `f(a, b)`, and no link of a chain that may end there
abbrev pub is_call_expression : Tree → Bool
is_call_expression t = is_call_shape (shape_of t) && (is_bare t 2 && is_listed (part t 1))

abbrev pub is_static_member_shape : Shape → Bool
is_static_member_shape (shape.StaticMemberExpression false) = true
is_static_member_shape _ = false

-- `a.x`, and no link of a chain that may end there
abbrev pub is_static_member : Tree → Bool
is_static_member t = is_static_member_shape (shape_of t) && is_bare t 2

abbrev pub is_computed_member_shape : Shape → Bool
is_computed_member_shape (shape.ComputedMemberExpression false) = true
is_computed_member_shape _ = false

-- `a[x]`, and no link of a chain that may end there
abbrev pub is_computed_member : Tree → Bool
is_computed_member t = is_computed_member_shape (shape_of t) && is_bare t 2

-- both have a symbol, and it is one
abbrev pub same_symbol : Option SymbolId → Option SymbolId → Bool
same_symbol (Some a) (Some b) = nat_eq a.0 b.0
same_symbol _ _ = false

abbrev pub same_names : List Name → List Name → Bool
same_names (x ∷ []) (y ∷ []) = same_symbol x.symbol y.symbol
same_names _ _ = false

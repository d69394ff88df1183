-- Where a node stands: the place of every child by its parent's shape, the parent's own place, how
-- many children there are, and the child's index.
use Rattle.std.specs.Prelude.{ℕ, zero, suc, ◌+◌, nat_eq, Bool, true, false, ◌||◌, ◌&&◌, if◌then◌else◌}
use Rattle.mini_model.specs.declared.kind.PropertyKind.{PropertyKind}
use Rattle.mini_model.specs.declared.kind.PropertyKind.TheVariants.{Init}
use Rattle.mini_model.specs.declared.operator.BinaryOperator.{BinaryOperator}
use Rattle.mini_model.specs.declared.operator.BinaryOperator.TheVariants as binary
use Rattle.mini_model.specs.declared.operator.LogicalOperator.{LogicalOperator}
use Rattle.mini_model.specs.declared.operator.LogicalOperator.TheVariants.{Or, And, Coalesce}
use Rattle.mini_model.specs.declared.operator.UnaryOperator.{UnaryOperator}
use Rattle.mini_model.specs.declared.operator.UnaryOperator.TheVariants.{UnaryPlus, UnaryNegation, LogicalNot, BitwiseNot, Typeof, Void, Delete}
use Rattle.mini_model.specs.declared.seat.Seat.{Seat}
use Rattle.mini_model.specs.declared.seat.StmtSeat.TheVariants as stmt_seat
use Rattle.mini_model.specs.declared.seat.Mix.{Mix}
use Rattle.mini_model.specs.declared.seat.Mix.TheVariants as mix
use Rattle.mini_model.specs.declared.seat.Guard.TheVariants as guard
use Rattle.mini_model.specs.declared.shape.Shape.{Shape}
use Rattle.mini_model.specs.declared.shape.Shape.TheVariants as shape
pub use Rattle.mini_model.specs.declared.place.Position.{Position}
pub use Rattle.mini_model.specs.declared.place.Position.TheVariants.{Expr, Stmt, Target, Method, Unwritten, StatementList, BodyList, ArgumentList, SequenceList, TemplateList, CommaList, Elsewhere}

-- a seat with no mark
abbrev pub seat_of_level : ℕ → Seat
seat_of_level n = record { level = n; access = false; new_callee = false; boolean = false; unused = false; lifted = false; eq_left = false; cond_test = false; minus = false; mix = mix.None; guard = guard.None }

-- Levels, from the loosest to the tightest (ECMA-262, the grammar of expressions)

abbrev pub sequence_level : ℕ
sequence_level = 0

-- of an assignment, an arrow and `yield`
abbrev pub assignment_level : ℕ
assignment_level = 1

abbrev pub conditional_level : ℕ
conditional_level = 2

abbrev pub logical_level : LogicalOperator → ℕ
logical_level Coalesce = 3
logical_level Or = 3
logical_level And = 4

abbrev pub relation_level : ℕ
relation_level = 9

abbrev pub binary_level : BinaryOperator → ℕ
binary_level binary.BitwiseOr = 5
binary_level binary.BitwiseXor = 6
binary_level binary.BitwiseAnd = 7
binary_level binary.Equality = 8
binary_level binary.Inequality = 8
binary_level binary.StrictEquality = 8
binary_level binary.StrictInequality = 8
binary_level binary.LessThan = relation_level
binary_level binary.LessEqualThan = relation_level
binary_level binary.GreaterThan = relation_level
binary_level binary.GreaterEqualThan = relation_level
binary_level binary.In = relation_level
binary_level binary.Instanceof = relation_level
binary_level binary.ShiftLeft = 10
binary_level binary.ShiftRight = 10
binary_level binary.ShiftRightZeroFill = 10
binary_level binary.Addition = 11
binary_level binary.Subtraction = 11
binary_level binary.Multiplication = 12
binary_level binary.Division = 12
binary_level binary.Remainder = 12
binary_level binary.Exponential = 13

abbrev pub unary_level : ℕ
unary_level = 14

abbrev pub update_level : ℕ
update_level = 15

abbrev pub primary_level : ℕ
primary_level = 16

-- Seats of expressions

-- a statement's expression, the init and the update of a `for`
abbrev pub statement_expression_seat : Seat
statement_expression_seat = record (seat_of_level 0) { unused = true }

-- the test of an `if` and of a loop
abbrev pub if_test_seat : Seat
if_test_seat = record (seat_of_level 0) { boolean = true }

-- what else stands in the parentheses, brackets or braces of a statement or an expression, or
-- before a semicolon
abbrev pub whole_seat : Seat
whole_seat = seat_of_level 0

-- an argument, an element, a property's value, a computed key, an initializer, a default, the right
-- side of an assignment, what is spread, an arrow's body
abbrev pub argument_seat : Seat
argument_seat = seat_of_level 1

-- the operand of `!`
abbrev pub not_operand_seat : Seat
not_operand_seat = record (seat_of_level unary_level) { boolean = true; lifted = true }

abbrev pub unary_operand_seat : UnaryOperator → Seat
unary_operand_seat LogicalNot = not_operand_seat
unary_operand_seat UnaryNegation = record (seat_of_level unary_level) { lifted = true; minus = true }
unary_operand_seat UnaryPlus = record (seat_of_level unary_level) { lifted = true }
unary_operand_seat BitwiseNot = record (seat_of_level unary_level) { lifted = true }
unary_operand_seat Typeof = record (seat_of_level unary_level) { guard = guard.Typeof }
unary_operand_seat Void = seat_of_level unary_level
unary_operand_seat Delete = record (seat_of_level unary_level) { guard = guard.Delete }

abbrev pub is_equality : BinaryOperator → Bool
is_equality binary.Equality = true
is_equality binary.Inequality = true
is_equality binary.StrictEquality = true
is_equality binary.StrictInequality = true
is_equality _ = false

-- `**` groups to the right, and takes no unary expression on its left (ECMA-262, "Exponentiation
-- Operator")
abbrev pub left_level : BinaryOperator → ℕ
left_level binary.Exponential = update_level
left_level o = binary_level o

abbrev pub right_level : BinaryOperator → ℕ
right_level binary.Exponential = binary_level binary.Exponential
right_level o = binary_level o + 1

abbrev pub binary_operand_seat : BinaryOperator → ℕ → Seat
binary_operand_seat o zero = record (seat_of_level (left_level o)) { lifted = true; eq_left = is_equality o }
binary_operand_seat o (suc i) = seat_of_level (right_level o)

abbrev pub mix_of : LogicalOperator → Mix
mix_of Coalesce = mix.InCoalesce
mix_of Or = mix.InAndOr
mix_of And = mix.InAndOr

-- whether the operands tell the truth of the whole
abbrev pub is_and_or : LogicalOperator → Bool
is_and_or Coalesce = false
is_and_or Or = true
is_and_or And = true

abbrev pub left_operand_seat : LogicalOperator → Seat → Seat
left_operand_seat o s = record (seat_of_level (logical_level o)) { boolean = is_and_or o && (s.boolean || s.unused); lifted = true; mix = mix_of o }

abbrev pub right_operand_seat : LogicalOperator → Seat → Seat
right_operand_seat o s = record (seat_of_level (logical_level o + 1)) { boolean = is_and_or o && s.boolean; mix = mix_of o }

abbrev pub operand_seat : LogicalOperator → Seat → ℕ → Seat
operand_seat o s zero = left_operand_seat o s
operand_seat o s (suc i) = right_operand_seat o s

abbrev pub conditional_test_seat : Seat
conditional_test_seat = record (seat_of_level 3) { boolean = true; lifted = true; cond_test = true }

abbrev pub branch_seat : Seat → Seat
branch_seat s = record (seat_of_level 1) { boolean = s.boolean }

-- a part of a sequence that others follow
abbrev pub passed_part_seat : Seat
passed_part_seat = record (seat_of_level 1) { unused = true }

-- the callee of a call, and the tag of a template
abbrev pub callee_seat : Seat
callee_seat = record (seat_of_level primary_level) { access = true; guard = guard.Callee }

abbrev pub new_callee_seat : Seat
new_callee_seat = record (seat_of_level primary_level) { access = true; new_callee = true }

-- the object of a member access
abbrev pub object_seat : Seat
object_seat = record (seat_of_level primary_level) { access = true }

-- what a class extends
abbrev pub super_class_seat : Seat
super_class_seat = seat_of_level primary_level

abbrev pub yield_argument_seat : Seat
yield_argument_seat = record (seat_of_level 1) { lifted = true }

-- the call or the member of a chain, which never has parentheses, and gives the reference that its
-- seat asks for
abbrev pub chained_seat : Seat → Seat
chained_seat s = record (seat_of_level primary_level) { guard = s.guard }

-- Places of children

-- the first child, and the others
abbrev pub first_rest : Position → Position → ℕ → Position
first_rest p q zero = p
first_rest p q (suc i) = q

-- the first child, the second, and the others
abbrev pub first_second_rest : Position → Position → Position → ℕ → Position
first_second_rest p q r zero = p
first_second_rest p q r (suc zero) = q
first_second_rest p q r (suc (suc i)) = r

abbrev pub body_position : Position
body_position = Stmt stmt_seat.Body

abbrev pub conditional_position : Seat → ℕ → Position
conditional_position s zero = Expr conditional_test_seat
conditional_position s (suc i) = Expr (branch_seat s)

abbrev pub if_position : ℕ → Position
if_position zero = Expr if_test_seat
if_position (suc zero) = Stmt stmt_seat.Consequent
if_position (suc (suc i)) = body_position

abbrev pub for_position : ℕ → Position
for_position zero = Expr statement_expression_seat
for_position (suc zero) = Expr if_test_seat
for_position (suc (suc zero)) = Expr statement_expression_seat
for_position (suc (suc (suc i))) = body_position

abbrev pub call_position : ℕ → Position
call_position zero = Expr callee_seat
call_position (suc i) = ArgumentList

abbrev pub key_position : Bool → Position
key_position computed = if computed then Expr argument_seat else Elsewhere

abbrev pub written_key_position : Bool → Bool → Position
written_key_position shorthand computed = if shorthand then Unwritten else key_position computed

-- the name of a class declaration is written once, and held twice
abbrev pub class_position : ℕ → Position
class_position zero = Elsewhere
class_position (suc zero) = Expr super_class_seat
class_position (suc (suc zero)) = Elsewhere
class_position (suc (suc (suc i))) = Unwritten

abbrev pub is_accessor : PropertyKind → Bool
is_accessor Init = false
is_accessor _ = true

-- the value of a property: of a method or an accessor it's the function
abbrev pub value_position : PropertyKind → Bool → Position
value_position kind is_method = if is_method || is_accessor kind then Method else Expr argument_seat

-- the part at a place of a sequence of n parts
abbrev pub part_seat : Seat → ℕ → ℕ → Seat
part_seat s n i = if nat_eq (suc i) n then branch_seat s else passed_part_seat

-- the item at a place of a list of n items
abbrev pub item_position : Position → ℕ → ℕ → Position
item_position StatementList n i = Stmt stmt_seat.List
item_position BodyList n i = Stmt stmt_seat.List
item_position ArgumentList n i = Expr argument_seat
item_position (SequenceList s) n i = Expr (part_seat s n i)
item_position TemplateList n i = Expr whole_seat
item_position _ n i = Elsewhere

-- the seat of a node at a place of another kind has no mark
abbrev pub seat_at : Position → Seat
seat_at (Expr s) = s
seat_at _ = seat_of_level 0

-- the place of the child at index i of n children
abbrev pub child_position : Shape → Position → ℕ → ℕ → Position
child_position shape.Listed p n i = item_position p n i
child_position shape.InnerExpression p n i = first_rest p Elsewhere i
child_position (shape.Program m ds) p n i = StatementList
-- statements
child_position shape.ExpressionStatement p n i = Expr statement_expression_seat
child_position shape.BlockStatement p n i = StatementList
child_position shape.LabeledStatement p n i = first_rest Elsewhere body_position i
child_position shape.ReturnStatement p n i = Expr whole_seat
child_position shape.ThrowStatement p n i = Expr whole_seat
child_position shape.IfStatement p n i = if_position i
child_position shape.SwitchStatement p n i = first_rest (Expr whole_seat) Elsewhere i
child_position shape.SwitchCase p n i = first_rest (Expr whole_seat) StatementList i
child_position shape.WhileStatement p n i = first_rest (Expr if_test_seat) body_position i
child_position shape.DoWhileStatement p n i = first_rest body_position (Expr if_test_seat) i
child_position shape.ForStatement p n i = for_position i
child_position shape.ForInStatement p n i = first_second_rest Target (Expr whole_seat) body_position i
child_position shape.ForOfStatement p n i = first_second_rest Target (Expr argument_seat) body_position i
child_position (shape.VariableDeclaration k) p n i = CommaList
child_position shape.VariableDeclarator p n i = first_rest Elsewhere (Expr argument_seat) i
-- functions and classes
child_position (shape.Function d g ds) p n i = first_second_rest Elsewhere CommaList Elsewhere i
child_position (shape.ArrowFunctionExpression ds) p n i = first_rest CommaList (Expr argument_seat) i
child_position shape.FunctionBody p n i = BodyList
child_position (shape.Class d) p n i = class_position i
child_position (shape.MethodDefinition k computed is_static) p n i = first_rest (key_position computed) Method i
child_position (shape.PropertyDefinition computed is_static) p n i = first_rest (key_position computed) (Expr argument_seat) i
child_position shape.StaticBlock p n i = StatementList
-- modules
child_position shape.ImportDeclaration p n i = first_rest CommaList Elsewhere i
child_position shape.ExportNamedDeclaration p n i = first_second_rest Elsewhere CommaList Elsewhere i
child_position shape.ExportDefaultDeclaration p n i = Expr argument_seat
-- expressions
child_position shape.ArrayExpression p n i = ArgumentList
child_position shape.ObjectExpression p n i = CommaList
child_position (shape.ObjectProperty k m shorthand computed) p n i = first_rest (written_key_position shorthand computed) (value_position k m) i
child_position shape.SpreadElement p n i = Expr argument_seat
child_position (shape.UnaryExpression o) p n i = Expr (unary_operand_seat o)
child_position (shape.UpdateExpression o b) p n i = Target
child_position (shape.BinaryExpression o) p n i = Expr (binary_operand_seat o i)
child_position shape.PrivateInExpression p n i = first_rest Elsewhere (Expr (binary_operand_seat binary.In i)) i
child_position (shape.LogicalExpression o) p n i = Expr (operand_seat o (seat_at p) i)
child_position (shape.AssignmentExpression o) p n i = first_rest Target (Expr argument_seat) i
child_position shape.ConditionalExpression p n i = conditional_position (seat_at p) i
child_position shape.SequenceExpression p n i = SequenceList (seat_at p)
child_position (shape.CallExpression b) p n i = call_position i
child_position shape.SuperCallExpression p n i = first_rest Elsewhere ArgumentList i
child_position shape.NewExpression p n i = first_rest (Expr new_callee_seat) ArgumentList i
child_position (shape.StaticMemberExpression b) p n i = first_rest (Expr object_seat) Elsewhere i
child_position (shape.ComputedMemberExpression b) p n i = first_rest (Expr object_seat) (Expr whole_seat) i
child_position (shape.PrivateFieldExpression b) p n i = first_rest (Expr object_seat) Elsewhere i
child_position shape.SuperComputedMemberExpression p n i = first_rest Elsewhere (Expr whole_seat) i
child_position shape.ChainExpression p n i = Expr (chained_seat (seat_at p))
child_position (shape.YieldExpression b) p n i = Expr yield_argument_seat
child_position shape.TemplateLiteral p n i = first_rest Elsewhere TemplateList i
child_position shape.TaggedTemplateExpression p n i = first_rest (Expr callee_seat) Elsewhere i
child_position shape.ImportExpression p n i = Expr argument_seat
-- patterns
child_position shape.ObjectPattern p n i = CommaList
child_position shape.ArrayPattern p n i = CommaList
child_position (shape.BindingProperty shorthand computed) p n i = first_rest (written_key_position shorthand computed) Target i
child_position shape.RestElement p n i = Target
child_position shape.AssignmentPattern p n i = first_rest Target (Expr argument_seat) i
child_position shape.ObjectAssignmentTarget p n i = CommaList
child_position shape.ArrayAssignmentTarget p n i = CommaList
child_position shape.AssignmentTargetPropertyIdentifier p n i = first_rest Unwritten Target i
child_position (shape.AssignmentTargetPropertyProperty computed) p n i = first_rest (key_position computed) Target i
child_position _ p n i = Elsewhere

-- The weight of a tree in its place: about two for each character of a compact text of it, with
-- what a word, a pair of parentheses or an awkward form costs besides, so that a lighter tree is
-- seldom a longer text. Names weigh the same whatever their spelling, since a later pass renames
-- them.
use Rattle.std.specs.Prelude.{ℕ, zero, suc, ◌+◌, ◌*◌, min, Bool, true, false, not, ◌||◌, ◌&&◌, List, [], ◌∷◌, length, codes, nat_eq, nat_lt, if◌then◌else◌, is_none, ℤ, pos, negsuc}
use Rattle.std.specs.Cmp.Lexicographic.{pointwise}
use Rattle.std.specs.Fmt.{decimal, signed_decimal}
use Rattle.mini_model.specs.declared.kind.MethodDefinitionKind.{MethodDefinitionKind}
use Rattle.mini_model.specs.declared.kind.MethodDefinitionKind.TheVariants as method_kind
use Rattle.mini_model.specs.declared.kind.PropertyKind.{PropertyKind}
use Rattle.mini_model.specs.declared.kind.VariableDeclarationKind.{VariableDeclarationKind}
use Rattle.mini_model.specs.declared.kind.VariableDeclarationKind.TheVariants.{Var, Let, Const}
use Rattle.mini_model.specs.declared.operator.AssignmentOperator.{AssignmentOperator}
use Rattle.mini_model.specs.declared.operator.AssignmentOperator.TheVariants as assignment
use Rattle.mini_model.specs.declared.operator.BinaryOperator.{BinaryOperator}
use Rattle.mini_model.specs.declared.operator.BinaryOperator.TheVariants as binary
use Rattle.mini_model.specs.declared.operator.UnaryOperator.{UnaryOperator}
use Rattle.mini_model.specs.declared.operator.UnaryOperator.TheVariants.{Typeof, Void, Delete}
use Rattle.mini_model.specs.declared.name.Name.{Name}
use Rattle.mini_model.specs.declared.seat.Mix.{Mix}
use Rattle.mini_model.specs.declared.seat.Mix.TheVariants.{InCoalesce, InAndOr}
use Rattle.mini_model.specs.declared.seat.Seat.{Seat}
use Rattle.mini_model.specs.declared.seat.StmtSeat.{StmtSeat}
use Rattle.mini_model.specs.declared.seat.StmtSeat.TheVariants as stmt_seat
use Rattle.mini_model.specs.declared.shape.Shape.{Shape}
use Rattle.mini_model.specs.declared.shape.Shape.TheVariants as shape
use Rattle.mini_model.specs.Tree.{Tree, Trees, node, none, ◌▸◌, count}
use Rattle.mini_model.specs.Position.{Position, Expr, Stmt, Target, Method, Unwritten, ArgumentList, SequenceList, CommaList, Elsewhere, sequence_level, assignment_level, conditional_level, logical_level, relation_level, binary_level, unary_level, update_level, primary_level, is_and_or, is_accessor, child_position}

-- ---- what the weight of a node reads of its children

pub record Outline : Type 0 where
  -- it is absent
  pub absent : Bool
  -- how many items a list has
  pub items : ℕ
  -- it is the literal 0
  pub is_zero : Bool
  -- it is an `if` with `else`, or a list of one such alone
  pub chooses : Bool

abbrev pub plain_outline : Outline
plain_outline = record { absent = false; items = 0; is_zero = false; chooses = false }

abbrev pub is_zero_number : ℤ → Bool
is_zero_number (pos zero) = true
is_zero_number _ = false

abbrev pub nth_is_absent : List Outline → ℕ → Bool
nth_is_absent [] i = true
nth_is_absent (o ∷ os) zero = o.absent
nth_is_absent (o ∷ os) (suc i) = nth_is_absent os i

abbrev pub nth_items : List Outline → ℕ → ℕ
nth_items [] i = 0
nth_items (o ∷ os) zero = o.items
nth_items (o ∷ os) (suc i) = nth_items os i

abbrev pub first_is_zero : List Outline → Bool
first_is_zero [] = false
first_is_zero (o ∷ os) = o.is_zero

abbrev pub first_chooses : List Outline → Bool
first_chooses [] = false
first_chooses (o ∷ os) = o.chooses

abbrev pub one_chooses : List Outline → Bool
one_chooses (o ∷ []) = o.chooses
one_chooses _ = false

abbrev pub outline_by : Shape → List Outline → Outline
outline_by shape.Absent os = record plain_outline { absent = true }
outline_by shape.Listed os = record plain_outline { items = length os; chooses = one_chooses os }
outline_by shape.IfStatement os = record plain_outline { chooses = not (nth_is_absent os 2) }
outline_by (shape.NumericLiteral n) os = record plain_outline { is_zero = is_zero_number n }
outline_by _ os = plain_outline

abbrev mutual
  pub outline : Tree → Outline
  outline (node h xs n ts) = outline_by h (outlines ts)

  pub outlines : Trees → List Outline
  outlines none = []
  outlines (t ▸ ts) = outline t ∷ outlines ts

-- ---- names and operators

abbrev pub same_text : List ℕ → List ℕ → Bool
same_text = pointwise nat_eq

-- the three names of the global object that a text spells out, since they can't be renamed
abbrev pub spelled_weight : List ℕ → ℕ
spelled_weight s = if same_text s (codes "undefined") then 18 else (if same_text s (codes "Infinity") then 16 else (if same_text s (codes "NaN") then 6 else 2))

abbrev pub name_weight : Name → ℕ
name_weight x = if is_none x.symbol then spelled_weight x.spelling else 2

abbrev pub names_weight : List Name → ℕ
names_weight [] = 0
names_weight (x ∷ xs) = name_weight x + names_weight xs

-- a text in quotes
abbrev pub quoted_weight : List ℕ → ℕ
quoted_weight s = 2 * length s + 4

abbrev pub directives_weight : List (List ℕ) → ℕ
directives_weight [] = 0
directives_weight (d ∷ ds) = 2 * length d + 6 + directives_weight ds

abbrev pub unary_operator_weight : UnaryOperator → ℕ
unary_operator_weight Typeof = 10
unary_operator_weight Void = 10
unary_operator_weight Delete = 14
unary_operator_weight _ = 2

abbrev pub binary_operator_weight : BinaryOperator → ℕ
binary_operator_weight binary.Equality = 4
binary_operator_weight binary.Inequality = 4
binary_operator_weight binary.StrictEquality = 6
binary_operator_weight binary.StrictInequality = 6
binary_operator_weight binary.LessEqualThan = 4
binary_operator_weight binary.GreaterEqualThan = 4
binary_operator_weight binary.ShiftLeft = 4
binary_operator_weight binary.ShiftRight = 4
binary_operator_weight binary.ShiftRightZeroFill = 6
binary_operator_weight binary.Exponential = 4
binary_operator_weight binary.BitwiseXor = 4
binary_operator_weight binary.In = 4
binary_operator_weight binary.Instanceof = 20
binary_operator_weight _ = 2

abbrev pub assignment_operator_weight : AssignmentOperator → ℕ
assignment_operator_weight assignment.Assign = 2
assignment_operator_weight assignment.Exponential = 6
assignment_operator_weight assignment.ShiftLeft = 6
assignment_operator_weight assignment.ShiftRight = 6
assignment_operator_weight assignment.ShiftRightZeroFill = 8
assignment_operator_weight assignment.BitwiseXor = 6
assignment_operator_weight assignment.LogicalOr = 6
assignment_operator_weight assignment.LogicalAnd = 6
assignment_operator_weight assignment.LogicalNullish = 6
assignment_operator_weight _ = 4

-- ---- parentheses

abbrev pub is_negative : ℤ → Bool
is_negative (negsuc n) = true
is_negative _ = false

-- the level of a node, to be held against its seat's
abbrev pub level_of : Shape → ℕ
level_of shape.SequenceExpression = sequence_level
level_of (shape.AssignmentExpression o) = assignment_level
level_of (shape.ArrowFunctionExpression ds) = assignment_level
level_of (shape.YieldExpression b) = assignment_level
level_of shape.ConditionalExpression = conditional_level
level_of (shape.LogicalExpression o) = logical_level o
level_of (shape.BinaryExpression o) = binary_level o
level_of shape.PrivateInExpression = relation_level
level_of (shape.UnaryExpression o) = unary_level
level_of (shape.NumericLiteral n) = if is_negative n then unary_level else primary_level
level_of (shape.UpdateExpression o b) = update_level
level_of _ = primary_level

-- `??` and `&&` or `||` stand in one another in parentheses alone (ECMA-262, "Binary Logical
-- Operators")
abbrev pub mixes : Shape → Mix → Bool
mixes (shape.LogicalExpression o) InCoalesce = is_and_or o
mixes (shape.LogicalExpression o) InAndOr = not (is_and_or o)
mixes h m = false

-- a chain would go on in the access round it (ECMA-262, "Optional Chains")
abbrev pub is_chain : Shape → Bool
is_chain shape.ChainExpression = true
is_chain _ = false

-- the arguments of a call would be those of the `new` round it (ECMA-262, "Left-Hand-Side
-- Expressions")
abbrev pub is_call : Shape → Bool
is_call (shape.CallExpression b) = true
is_call _ = false

abbrev pub is_parenthesized : Shape → Seat → Bool
is_parenthesized h s = nat_lt (level_of h) s.level || (mixes h s.mix || ((s.access && is_chain h) || (s.new_callee && is_call h)))

abbrev pub parentheses : Shape → Seat → ℕ
parentheses h s = if is_parenthesized h s then 4 else 0

-- ---- forms that a lighter one is wanted for

-- a literal, or what stands for one: a value that is written out
abbrev pub is_plain : Shape → List Outline → Bool
is_plain (shape.NumericLiteral n) os = true
is_plain (shape.StringLiteral s) os = true
is_plain (shape.BooleanLiteral b) os = true
is_plain shape.NullLiteral os = true
is_plain (shape.BigIntLiteral n) os = true
is_plain shape.TemplateLiteral os = nat_eq (nth_items os 1) 0
is_plain (shape.UnaryExpression Void) os = first_is_zero os
is_plain _ os = false

abbrev pub is_unequal : Shape → Bool
is_unequal (shape.BinaryExpression binary.Inequality) = true
is_unequal (shape.BinaryExpression binary.StrictInequality) = true
is_unequal _ = false

abbrev pub is_sequence : Shape → Bool
is_sequence shape.SequenceExpression = true
is_sequence _ = false

-- a plain left operand of an equality, an inequality as a test of a conditional, a sequence that
-- can be lifted out
abbrev pub is_awkward : Seat → Shape → List Outline → Bool
is_awkward s h os = (s.eq_left && is_plain h os) || ((s.cond_test && is_unequal h) || (s.lifted && is_sequence h))

abbrev pub awkward_weight : Seat → Shape → List Outline → ℕ
awkward_weight s h os = if is_awkward s h os then 1 else 0

-- a bare `if` with `else` as a consequent is one heavier than in a block of its own
abbrev pub bare_weight : StmtSeat → ℕ
bare_weight stmt_seat.Consequent = 1
bare_weight _ = 0

-- the braces of a block: none are counted as a consequent round an `if` with `else` alone, which
-- can't do without
abbrev pub braces_weight : StmtSeat → Bool → ℕ
braces_weight stmt_seat.Consequent chooses = if chooses then 0 else 4
braces_weight _ chooses = 4

-- what the place adds
abbrev pub place_weight : Position → Shape → List Outline → ℕ
place_weight (Expr s) h os = parentheses h s + awkward_weight s h os
place_weight (Stmt q) shape.IfStatement os = if nth_is_absent os 2 then 0 else bare_weight q
place_weight p h os = 0

-- ---- what a node writes besides its children and its parentheses

-- a comma between two parts
abbrev pub commas_weight : List Outline → ℕ
commas_weight [] = 0
commas_weight (o ∷ []) = 0
commas_weight (o ∷ os) = 2 + commas_weight os

abbrev pub list_weight : Position → List Outline → ℕ
list_weight ArgumentList os = commas_weight os
list_weight (SequenceList s) os = commas_weight os
list_weight CommaList os = commas_weight os
list_weight _ os = 0

-- what is there where a part is
abbrev pub where_present : List Outline → ℕ → ℕ → ℕ
where_present os i n = if nth_is_absent os i then 0 else n

abbrev pub flagged : Bool → ℕ → ℕ
flagged b n = if b then n else 0

-- the braces of a block that stands here
abbrev pub block_weight : Position → List Outline → ℕ
block_weight (Stmt q) os = braces_weight q (first_chooses os)
block_weight _ os = 4

abbrev pub declaring_weight : VariableDeclarationKind → ℕ
declaring_weight Var = 8
declaring_weight Let = 8
declaring_weight Const = 12

-- the end of a declaration: in the head of a loop it has none
abbrev pub declaration_end : Position → ℕ
declaration_end (Expr s) = 0
declaration_end Target = 0
declaration_end _ = 2

-- `function()`; the function of a method is written without the word
abbrev pub function_weight : Position → ℕ
function_weight Method = 4
function_weight _ = 20

abbrev pub accessor_weight : PropertyKind → ℕ
accessor_weight k = flagged (is_accessor k) 8

abbrev pub method_kind_weight : MethodDefinitionKind → ℕ
method_kind_weight method_kind.Get = 8
method_kind_weight method_kind.Set = 8
method_kind_weight _ = 0

abbrev pub property_weight : PropertyKind → Bool → Bool → ℕ
property_weight k is_method computed = accessor_weight k + flagged (not (is_method || is_accessor k)) 2 + flagged computed 4

abbrev pub template_weight : ℕ → ℕ
template_weight expressions = 4 + 6 * expressions + flagged (nat_eq expressions 0) 1

abbrev pub text_weight : Shape → List Name → Position → List Outline → ℕ
text_weight shape.Listed xs p os = list_weight p os
text_weight (shape.Program m ds) xs p os = directives_weight ds
-- statements
text_weight shape.ExpressionStatement xs p os = 4
text_weight shape.EmptyStatement xs p os = 2
text_weight shape.DebuggerStatement xs p os = 18
text_weight shape.BlockStatement xs p os = block_weight p os
text_weight shape.LabeledStatement xs p os = 2
text_weight shape.BreakStatement xs p os = 16
text_weight shape.ContinueStatement xs p os = 16
text_weight shape.ReturnStatement xs p os = 16
text_weight shape.ThrowStatement xs p os = 16
text_weight shape.IfStatement xs p os = 14 + where_present os 2 10
text_weight shape.SwitchStatement xs p os = 20
text_weight shape.SwitchCase xs p os = if nth_is_absent os 0 then 16 else 12
text_weight shape.TryStatement xs p os = 12 + where_present os 2 16
text_weight shape.CatchClause xs p os = 12 + where_present os 0 4
text_weight shape.WhileStatement xs p os = 14
text_weight shape.DoWhileStatement xs p os = 22
text_weight shape.ForStatement xs p os = 14
text_weight shape.ForInStatement xs p os = 16
text_weight shape.ForOfStatement xs p os = 16
text_weight (shape.VariableDeclaration k) xs p os = declaring_weight k + declaration_end p
text_weight shape.VariableDeclarator xs p os = where_present os 1 2
-- functions and classes
text_weight (shape.Function d generator ds) xs p os = function_weight p + flagged generator 2 + directives_weight ds
text_weight (shape.ArrowFunctionExpression ds) xs p os = 8 + directives_weight ds
text_weight shape.FunctionBody xs p os = 4
text_weight (shape.Class d) xs p os = 16 + where_present os 1 16
text_weight (shape.MethodDefinition k computed is_static) xs p os = method_kind_weight k + flagged computed 4 + flagged is_static 14
text_weight (shape.PropertyDefinition computed is_static) xs p os = where_present os 1 2 + flagged computed 4 + flagged is_static 14
text_weight shape.StaticBlock xs p os = 18
-- modules
text_weight shape.ImportDeclaration xs p os = 20
text_weight shape.ImportSpecifier xs p os = 4
text_weight shape.ImportDefaultSpecifier xs p os = 4
text_weight shape.ImportNamespaceSpecifier xs p os = 4
text_weight shape.ExportNamedDeclaration xs p os = 14
text_weight shape.ExportSpecifier xs p os = 4
text_weight shape.ExportDefaultDeclaration xs p os = 30
text_weight shape.ExportAllDeclaration xs p os = 14
-- names and literals
text_weight shape.Identifier xs p os = names_weight xs
text_weight shape.BindingIdentifier xs p os = 2
text_weight (shape.IdentifierName s) xs p os = 2
text_weight (shape.PrivateIdentifier s) xs p os = 4
text_weight (shape.NumericLiteral n) xs p os = 2 * length (signed_decimal n)
text_weight (shape.StringLiteral s) xs p os = quoted_weight s
text_weight (shape.BooleanLiteral b) xs p os = 10
text_weight shape.NullLiteral xs p os = 8
text_weight (shape.RegExpLiteral pattern flags) xs p os = 2 * length pattern + 2 * length flags + 4
text_weight (shape.BigIntLiteral n) xs p os = 2 * length (decimal n) + 2
-- expressions
text_weight shape.ThisExpression xs p os = 8
text_weight shape.Super xs p os = 10
text_weight shape.ArrayExpression xs p os = 4
text_weight shape.ObjectExpression xs p os = 4
text_weight (shape.ObjectProperty k is_method shorthand computed) xs p os = if shorthand then 0 else property_weight k is_method computed
text_weight shape.SpreadElement xs p os = 6
text_weight (shape.UnaryExpression o) xs p os = unary_operator_weight o
text_weight (shape.UpdateExpression o prefix) xs p os = 4
text_weight (shape.BinaryExpression o) xs p os = binary_operator_weight o
text_weight shape.PrivateInExpression xs p os = 4
text_weight (shape.LogicalExpression o) xs p os = 4
text_weight (shape.AssignmentExpression o) xs p os = assignment_operator_weight o
text_weight shape.ConditionalExpression xs p os = 4
text_weight (shape.CallExpression optional) xs p os = 4 + flagged optional 4
text_weight shape.SuperCallExpression xs p os = 4
text_weight shape.NewExpression xs p os = 12
text_weight (shape.StaticMemberExpression optional) xs p os = 2 + flagged optional 2
text_weight (shape.ComputedMemberExpression optional) xs p os = 4 + flagged optional 4
text_weight (shape.PrivateFieldExpression optional) xs p os = 2 + flagged optional 2
text_weight shape.SuperStaticMemberExpression xs p os = 2
text_weight shape.SuperComputedMemberExpression xs p os = 4
text_weight (shape.YieldExpression delegate) xs p os = 10 + flagged delegate 2
text_weight shape.TemplateLiteral xs p os = template_weight (nth_items os 1)
text_weight (shape.TemplateElement tail raw cooked) xs p os = 2 * length raw
text_weight (shape.MetaProperty k) xs p os = 16
text_weight shape.ImportExpression xs p os = 16
-- patterns
text_weight shape.ObjectPattern xs p os = 4
text_weight shape.ArrayPattern xs p os = 4
text_weight (shape.BindingProperty shorthand computed) xs p os = if shorthand then 0 else 2 + flagged computed 4
text_weight shape.RestElement xs p os = 6
text_weight shape.AssignmentPattern xs p os = 2
text_weight shape.ObjectAssignmentTarget xs p os = 4
text_weight shape.ArrayAssignmentTarget xs p os = 4
text_weight (shape.AssignmentTargetPropertyProperty computed) xs p os = 2 + flagged computed 4
text_weight _ xs p os = 0

abbrev pub own_weight : Position → Shape → List Name → List Outline → ℕ
own_weight Unwritten h xs os = 0
own_weight p h xs os = text_weight h xs p os + place_weight p h os

-- ---- the whole

abbrev mutual
  pub weight : Position → Tree → ℕ
  weight p (node h xs n ts) = own_weight p h xs (outlines ts) + weights (child_position h p (count ts)) ts

  pub weights : (ℕ → Position) → Trees → ℕ
  weights π none = 0
  weights π (t ▸ ts) = weight (π zero) t + weights (λ i. π (suc i)) ts

-- a program stands in no other node
abbrev pub program_weight : Tree → ℕ
program_weight t = weight Elsewhere t

-- as far as 64 bits go
abbrev pub capped : ℕ → ℕ
capped n = min n 18446744073709551615

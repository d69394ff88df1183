-- What a node writes itself weighs little, but for its texts and its numbers.
use Rattle.std.proofs.Common.{ℕ, ◌+◌, ◌*◌, ◌≤◌, List, [], ◌∷◌, length, codes, Bool, true, false, cond, arith}
use Rattle.std.specs.Prelude.{not, ◌||◌, nat_eq}
use Rattle.std.specs.Fmt.{decimal, signed_decimal}
use Rattle.mini_model.specs.declared.kind.MethodDefinitionKind.{MethodDefinitionKind}
use Rattle.mini_model.specs.declared.kind.MethodDefinitionKind.TheVariants as method_kind
use Rattle.mini_model.specs.declared.kind.PropertyKind.{PropertyKind}
use Rattle.mini_model.specs.declared.kind.VariableDeclarationKind.{VariableDeclarationKind}
use Rattle.mini_model.specs.declared.kind.VariableDeclarationKind.TheVariants.{Var, Let, Const}
use Rattle.mini_model.specs.declared.operator.AssignmentOperator.{AssignmentOperator}
use Rattle.mini_model.specs.declared.operator.AssignmentOperator.TheVariants as assignment
use Rattle.mini_model.specs.declared.operator.BinaryOperator.{BinaryOperator}
use Rattle.mini_model.specs.declared.operator.BinaryOperator.TheVariants as binary
use Rattle.mini_model.specs.declared.operator.UnaryOperator.{UnaryOperator}
use Rattle.mini_model.specs.declared.operator.UnaryOperator.TheVariants.{Typeof, Void, Delete}
use Rattle.mini_model.specs.declared.name.Name.{Name}
use Rattle.mini_model.specs.declared.seat.Seat.{Seat}
use Rattle.mini_model.specs.declared.seat.StmtSeat.{StmtSeat}
use Rattle.mini_model.specs.declared.seat.StmtSeat.TheVariants as stmt_seat
use Rattle.mini_model.specs.declared.shape.Shape.{Shape}
use Rattle.mini_model.specs.declared.shape.Shape.TheVariants as shape
use Rattle.mini_model.specs.declared.place.Position.{Position}
use Rattle.mini_model.specs.declared.place.Position.TheVariants.{Expr, Stmt, Target, Method, Unwritten, ArgumentList, SequenceList, CommaList}
use Rattle.mini_model.specs.Position.{is_accessor}
use Rattle.mini_model.specs.Weight.{Outline, nth_is_absent, nth_items, first_chooses, own_weight, text_weight, names_weight, directives_weight, where_present, flagged, spelled_weight, same_text, is_parenthesized, parentheses, is_awkward, awkward_weight, bare_weight, braces_weight, block_weight, place_weight, commas_weight, list_weight, unary_operator_weight, binary_operator_weight, assignment_operator_weight, declaring_weight, declaration_end, function_weight, method_kind_weight, property_weight}

chosen : (b : Bool) (x y n : ℕ) → x ≤ n → y ≤ n → cond b x y ≤ n
chosen true x y n p q = p
chosen false x y n p q = q

pub spelled_light : (s : List ℕ) → spelled_weight s ≤ 18
spelled_light s =
    chosen (same_text s (codes "undefined")) _ _ 18 (omega arith)
    (chosen (same_text s (codes "Infinity")) _ _ 18 (omega arith)
    (chosen (same_text s (codes "NaN")) _ _ 18 (omega arith) (omega arith)))

-- ---- what the place adds

parentheses_light : (h : Shape) (s : Seat) → parentheses h s ≤ 4
parentheses_light h s = chosen (is_parenthesized h s) _ _ 4 (omega arith) (omega arith)

awkward_light : (s : Seat) (h : Shape) (os : List Outline) → awkward_weight s h os ≤ 1
awkward_light s h os = chosen (is_awkward s h os) _ _ 1 (omega arith) (omega arith)

bare_light : (q : StmtSeat) → bare_weight q ≤ 5
bare_light stmt_seat.Consequent = omega arith
bare_light q = omega arith

place_light : (p : Position) (h : Shape) (os : List Outline) → place_weight p h os ≤ 5
place_light (Expr s) h os = omega (arith, parentheses_light h s, awkward_light s h os)
place_light (Stmt q) shape.IfStatement os = chosen (nth_is_absent os 2) _ _ 5 (omega arith) (bare_light q)
place_light p h os = omega arith

-- a node adds at most 5 to its text
pub own_light : (n : ℕ) (p : Position) (h : Shape) (xs : List Name) (os : List Outline) → text_weight h xs p os ≤ n → own_weight p h xs os ≤ n + 5
own_light n Unwritten h xs os small = omega arith
own_light n p h xs os small = omega (arith, small, place_light p h os)

-- ---- parts of a text

unary_light : (o : UnaryOperator) → unary_operator_weight o ≤ 40
unary_light Typeof = omega arith
unary_light Void = omega arith
unary_light Delete = omega arith
unary_light o = omega arith

binary_light : (o : BinaryOperator) → binary_operator_weight o ≤ 40
binary_light binary.Instanceof = omega arith
binary_light o = omega arith

assignment_light : (o : AssignmentOperator) → assignment_operator_weight o ≤ 40
assignment_light assignment.Assign = omega arith
assignment_light o = omega arith

flagged_light : (b : Bool) (n : ℕ) → flagged b n ≤ n
flagged_light b n = chosen b _ _ n (omega arith) (omega arith)

present_light : (os : List Outline) (i n : ℕ) → where_present os i n ≤ n
present_light os i n = chosen (nth_is_absent os i) _ _ n (omega arith) (omega arith)

braces_light : (q : StmtSeat) (b : Bool) → braces_weight q b ≤ 40
braces_light stmt_seat.Consequent b = chosen b _ _ 40 (omega arith) (omega arith)
braces_light q b = omega arith

block_light : (p : Position) (os : List Outline) → block_weight p os ≤ 40
block_light (Stmt q) os = braces_light q (first_chooses os)
block_light p os = omega arith

declaring_light : (k : VariableDeclarationKind) → declaring_weight k ≤ 12
declaring_light Var = omega arith
declaring_light Let = omega arith
declaring_light Const = omega arith

end_light : (p : Position) → declaration_end p ≤ 2
end_light (Expr s) = omega arith
end_light Target = omega arith
end_light p = omega arith

function_light : (p : Position) → function_weight p ≤ 20
function_light Method = omega arith
function_light p = omega arith

kind_light : (k : MethodDefinitionKind) → method_kind_weight k ≤ 8
kind_light method_kind.Get = omega arith
kind_light method_kind.Set = omega arith
kind_light k = omega arith

property_light : (k : PropertyKind) (m b c : Bool) → cond b 0 (property_weight k m c) ≤ 40
property_light k m b c = chosen b _ _ 40 (omega arith) (omega (arith, flagged_light (is_accessor k) 8, flagged_light (not (m || is_accessor k)) 2, flagged_light c 4))

binding_light : (b c : Bool) → cond b 0 (2 + flagged c 4) ≤ 40
binding_light b c = chosen b _ _ 40 (omega arith) (omega (arith, flagged_light c 4))

commas_light : (os : List Outline) → commas_weight os ≤ 2 * length os
commas_light [] = omega arith
commas_light (o ∷ []) = omega arith
commas_light (o ∷ a ∷ os) = omega (arith, commas_light (a ∷ os))

pub list_light : (p : Position) (os : List Outline) → list_weight p os ≤ 2 * length os
list_light ArgumentList os = commas_light os
list_light (SequenceList s) os = commas_light os
list_light CommaList os = commas_light os
list_light p os = omega arith

-- ---- shapes

-- what depends on the texts, the numbers and the items
abbrev pub wordy : Shape → List Outline → ℕ
wordy shape.Listed os = 2 * length os
wordy (shape.Program m ds) os = directives_weight ds
wordy (shape.Function d g ds) os = directives_weight ds
wordy (shape.ArrowFunctionExpression ds) os = directives_weight ds
wordy (shape.NumericLiteral n) os = 2 * length (signed_decimal n)
wordy (shape.StringLiteral s) os = 2 * length s
wordy (shape.RegExpLiteral pattern flags) os = 2 * length pattern + 2 * length flags
wordy (shape.BigIntLiteral n) os = 2 * length (decimal n)
wordy shape.TemplateLiteral os = 6 * nth_items os 1
wordy (shape.TemplateElement tail raw cooked) os = 2 * length raw
wordy h os = 0

pub text_light : (h : Shape) (xs : List Name) (p : Position) (os : List Outline) → text_weight h xs p os ≤ 40 + names_weight xs + wordy h os
text_light shape.Listed xs p os = omega (arith, list_light p os)
text_light shape.BlockStatement xs p os = omega (arith, block_light p os)
text_light shape.IfStatement xs p os = omega (arith, present_light os 2 10)
text_light shape.SwitchCase xs p os = omega (arith, chosen (nth_is_absent os 0) 16 12 40 (omega arith) (omega arith))
text_light shape.TryStatement xs p os = omega (arith, present_light os 2 16)
text_light shape.CatchClause xs p os = omega (arith, present_light os 0 4)
text_light (shape.VariableDeclaration k) xs p os = omega (arith, declaring_light k, end_light p)
text_light shape.VariableDeclarator xs p os = omega (arith, present_light os 1 2)
text_light (shape.Function d g ds) xs p os = omega (arith, function_light p, flagged_light g 2)
text_light (shape.Class d) xs p os = omega (arith, present_light os 1 16)
text_light (shape.MethodDefinition k computed is_static) xs p os = omega (arith, kind_light k, flagged_light computed 4, flagged_light is_static 14)
text_light (shape.PropertyDefinition computed is_static) xs p os = omega (arith, present_light os 1 2, flagged_light computed 4, flagged_light is_static 14)
text_light (shape.ObjectProperty k m shorthand computed) xs p os = omega (arith, property_light k m shorthand computed)
text_light (shape.UnaryExpression o) xs p os = omega (arith, unary_light o)
text_light (shape.BinaryExpression o) xs p os = omega (arith, binary_light o)
text_light (shape.AssignmentExpression o) xs p os = omega (arith, assignment_light o)
text_light (shape.CallExpression optional) xs p os = omega (arith, flagged_light optional 4)
text_light (shape.StaticMemberExpression optional) xs p os = omega (arith, flagged_light optional 2)
text_light (shape.ComputedMemberExpression optional) xs p os = omega (arith, flagged_light optional 4)
text_light (shape.PrivateFieldExpression optional) xs p os = omega (arith, flagged_light optional 2)
text_light (shape.YieldExpression delegate) xs p os = omega (arith, flagged_light delegate 2)
text_light shape.TemplateLiteral xs p os = omega (arith, flagged_light (nat_eq (nth_items os 1) 0) 1)
text_light (shape.BindingProperty shorthand computed) xs p os = omega (arith, binding_light shorthand computed)
text_light (shape.AssignmentTargetPropertyProperty computed) xs p os = omega (arith, flagged_light computed 4)
text_light h xs p os = omega arith

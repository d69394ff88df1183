-- What the marks of a seat add where another is left.
use Rattle.std.proofs.Common.{◌+◌, ◌≤◌, Bool, true, false, List, refl, arith}
use Rattle.std.specs.Prelude.{◌||◌, pos, negsuc, if◌then◌else◌}
use Rattle.mini_model.specs.declared.operator.BinaryOperator.TheVariants as binary
use Rattle.mini_model.specs.declared.operator.LogicalOperator.TheVariants.{Or, And, Coalesce}
use Rattle.mini_model.specs.declared.place.Position.TheVariants.{Expr}
use Rattle.mini_model.specs.declared.shape.Shape.{Shape}
use Rattle.mini_model.specs.declared.shape.Shape.TheVariants as shape
use Rattle.mini_model.specs.Tree.{Tree}
use Rattle.mini_model.specs.Position.{statement_expression_seat, left_operand_seat, right_operand_seat, conditional_test_seat, not_operand_seat}
use Rattle.mini_model.specs.Weight.{Outline, place_weight, is_parenthesized, weight}
use Rattle.mini_laws.proofs.Seats.{placed}

-- the operand of a `!` is never heavier as the test of a conditional

test_marks : (h : Shape) (os : List Outline) → place_weight (Expr conditional_test_seat) h os ≤ place_weight (Expr not_operand_seat) h os + 0
test_marks (shape.LogicalExpression Or) os = omega arith
test_marks (shape.LogicalExpression And) os = omega arith
test_marks (shape.LogicalExpression Coalesce) os = omega arith
test_marks (shape.BinaryExpression binary.BitwiseOr) os = omega arith
test_marks (shape.BinaryExpression binary.BitwiseXor) os = omega arith
test_marks (shape.BinaryExpression binary.BitwiseAnd) os = omega arith
test_marks (shape.BinaryExpression o) os = omega arith
test_marks (shape.NumericLiteral (pos n)) os = omega arith
test_marks (shape.NumericLiteral (negsuc n)) os = omega arith
test_marks h os = omega arith

pub test_falls : (a : Tree) → weight (Expr conditional_test_seat) a ≤ weight (Expr not_operand_seat) a
test_falls a = let falls = placed 0 conditional_test_seat not_operand_seat refl test_marks a in omega (arith, falls)

-- nor as the left side of an `||` or an `&&` that is a statement

left_or_marks : (h : Shape) (os : List Outline) → place_weight (Expr (left_operand_seat Or statement_expression_seat)) h os ≤ place_weight (Expr not_operand_seat) h os + 0
left_or_marks (shape.LogicalExpression Or) os = omega arith
left_or_marks (shape.LogicalExpression And) os = omega arith
left_or_marks (shape.LogicalExpression Coalesce) os = omega arith
left_or_marks (shape.BinaryExpression binary.BitwiseOr) os = omega arith
left_or_marks (shape.BinaryExpression binary.BitwiseXor) os = omega arith
left_or_marks (shape.BinaryExpression binary.BitwiseAnd) os = omega arith
left_or_marks (shape.BinaryExpression o) os = omega arith
left_or_marks (shape.NumericLiteral (pos n)) os = omega arith
left_or_marks (shape.NumericLiteral (negsuc n)) os = omega arith
left_or_marks h os = omega arith

pub left_or_falls : (a : Tree) → weight (Expr (left_operand_seat Or statement_expression_seat)) a ≤ weight (Expr not_operand_seat) a
left_or_falls a = let falls = placed 0 (left_operand_seat Or statement_expression_seat) not_operand_seat refl left_or_marks a in omega (arith, falls)

left_and_marks : (h : Shape) (os : List Outline) → place_weight (Expr (left_operand_seat And statement_expression_seat)) h os ≤ place_weight (Expr not_operand_seat) h os + 0
left_and_marks (shape.LogicalExpression Or) os = omega arith
left_and_marks (shape.LogicalExpression And) os = omega arith
left_and_marks (shape.LogicalExpression Coalesce) os = omega arith
left_and_marks (shape.BinaryExpression binary.BitwiseOr) os = omega arith
left_and_marks (shape.BinaryExpression binary.BitwiseXor) os = omega arith
left_and_marks (shape.BinaryExpression binary.BitwiseAnd) os = omega arith
left_and_marks (shape.BinaryExpression o) os = omega arith
left_and_marks (shape.NumericLiteral (pos n)) os = omega arith
left_and_marks (shape.NumericLiteral (negsuc n)) os = omega arith
left_and_marks h os = omega arith

pub left_and_falls : (a : Tree) → weight (Expr (left_operand_seat And statement_expression_seat)) a ≤ weight (Expr not_operand_seat) a
left_and_falls a = let falls = placed 0 (left_operand_seat And statement_expression_seat) not_operand_seat refl left_and_marks a in omega (arith, falls)

-- what a statement's expression gets as the right side of a logical expression is a pair of parentheses at most

right_marks : (b : Bool) → (if b then 4 else 0) + (if false || (false || false) then 1 else 0) ≤ 4
right_marks true = omega arith
right_marks false = omega arith

pub right_and_falls : (b : Tree) → weight (Expr (right_operand_seat And statement_expression_seat)) b ≤ weight (Expr statement_expression_seat) b + 4
right_and_falls b = placed 4 (right_operand_seat And statement_expression_seat) statement_expression_seat refl (λ h os. omega (arith, right_marks (is_parenthesized h (right_operand_seat And statement_expression_seat)))) b

pub right_or_falls : (b : Tree) → weight (Expr (right_operand_seat Or statement_expression_seat)) b ≤ weight (Expr statement_expression_seat) b + 4
right_or_falls b = placed 4 (right_operand_seat Or statement_expression_seat) statement_expression_seat refl (λ h os. omega (arith, right_marks (is_parenthesized h (right_operand_seat Or statement_expression_seat)))) b

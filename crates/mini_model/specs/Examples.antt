-- Small trees with what the definitions say of them, worked out by hand: two for each character and
-- what the comments of `Weight` add. a, b, c, d and e are names, and a text stands over each
-- example.
use Rattle.std.specs.Prelude.{◌≡◌, refl, ℕ, true, false, Some, List, [], ◌∷◌, codes, ℤ, pos, negsuc}
use Rattle.std.specs.Fmt.{digits}
use Rattle.std.proofs.Common.{inl, inr, lit<}
use Rattle.mini_model.specs.declared.kind.PropertyKind.TheVariants.{Init}
use Rattle.mini_model.specs.declared.kind.VariableDeclarationKind.TheVariants.{Var}
use Rattle.mini_model.specs.declared.operator.BinaryOperator.{BinaryOperator}
use Rattle.mini_model.specs.declared.operator.BinaryOperator.TheVariants as binary
use Rattle.mini_model.specs.declared.operator.LogicalOperator.TheVariants.{Or, And, Coalesce}
use Rattle.mini_model.specs.declared.operator.UnaryOperator.TheVariants.{Void}
use Rattle.mini_model.specs.declared.shape.Shape.TheVariants as shape
use Rattle.mini_model.specs.declared.seat.Seat.{Seat}
use Rattle.mini_model.specs.declared.seat.StmtSeat.TheVariants as stmt_seat
use Rattle.mini_model.specs.Tree.{Tree, Trees, node, none, ◌▸◌, leaf, listed, absent, unresolved, identifier, unary, null_literal, negation, logical, conditional, call, empty_statement, expression_statement, if_else, if_alone, program}
use Rattle.mini_model.specs.Position.{Position, Expr, Stmt, seat_of_level, statement_expression_seat, if_test_seat, right_operand_seat, part_seat}
use Rattle.mini_model.specs.Weight.{weight, program_weight}
use Rattle.mini_model.specs.Terms.{is_boolean, neg, not_of, has_negated_result}
use Rattle.mini_model.specs.Redex.{Row23, Row40, Contracts}
use Rattle.mini_model.specs.Rewriting.{Reaches, more, done, here, inside, first}

abbrev a : Tree
a = identifier (unresolved (codes "a"))

abbrev b : Tree
b = identifier (unresolved (codes "b"))

abbrev c : Tree
c = identifier (unresolved (codes "c"))

abbrev d : Tree
d = identifier (unresolved (codes "d"))

abbrev e : Tree
e = identifier (unresolved (codes "e"))

-- a call without arguments, and one as a statement
abbrev called : Tree → Tree
called f = call false f none

abbrev call_statement : Tree → Tree
call_statement f = expression_statement (called f)

-- in a list of statements, and where a value is wanted and nothing wants parentheses
abbrev item : Position
item = Stmt stmt_seat.List

abbrev value_seat : Seat
value_seat = seat_of_level 0

abbrev value : Position
value = Expr value_seat

-- names, and what has no parts

-- `undefined`, which no scope declares: nine letters
weight_of_undefined : weight value (identifier (unresolved (codes "undefined"))) ≡ 18
weight_of_undefined = refl

-- `Infinity`: eight letters
weight_of_infinity : weight value (identifier (unresolved (codes "Infinity"))) ≡ 16
weight_of_infinity = refl

-- `NaN`: three letters
weight_of_nan : weight value (identifier (unresolved (codes "NaN"))) ≡ 6
weight_of_nan = refl

-- `undefined`, which a scope declares: a name like any other
weight_of_declared_undefined : weight value (identifier (record { spelling = codes "undefined"; symbol = Some (record { 0 = 0 }) })) ≡ 2
weight_of_declared_undefined = refl

-- `document`, which no scope declares: a name like any other
weight_of_global : weight value (identifier (unresolved (codes "document"))) ≡ 2
weight_of_global = refl

-- `null`: four letters
weight_of_null : weight value null_literal ≡ 8
weight_of_null = refl

-- `;`
weight_of_empty : weight item empty_statement ≡ 2
weight_of_empty = refl

-- expressions, and their parentheses

-- `!a`: 2 + 2
weight_of_not : weight value (negation a) ≡ 4
weight_of_not = refl

-- `!(a && b)`: 2, parentheses 4, 4 + 2 + 2
weight_of_not_and : weight value (negation (logical And a b)) ≡ 14
weight_of_not_and = refl

-- `!a || !b`: 4 + 4 + 4
weight_of_or_of_nots : weight value (logical Or (negation a) (negation b)) ≡ 12
weight_of_or_of_nots = refl

-- `a ? b : c`: 4 + 2 + 2 + 2
weight_of_conditional : weight value (conditional a b c) ≡ 10
weight_of_conditional = refl

-- `(a ? b : c) && d`: 4, the conditional 10 in parentheses 4, 2
weight_of_conditional_on_the_left : weight value (logical And (conditional a b c) d) ≡ 20
weight_of_conditional_on_the_left = refl

-- `d || (a ? b : c)`: the same on the right
weight_of_conditional_on_the_right : weight value (logical Or d (conditional a b c)) ≡ 20
weight_of_conditional_on_the_right = refl

-- `(a ? b : c) ? d : e`: a conditional 10 in parentheses 4 as the test, 4 + 2 + 2
weight_of_conditional_as_test : weight value (conditional (conditional a b c) d e) ≡ 22
weight_of_conditional_as_test = refl

-- `a ? b : c ? d : e`: none as a branch: 4 + 2 + 2, 10
weight_of_conditional_as_branch : weight value (conditional a b (conditional c d e)) ≡ 18
weight_of_conditional_as_branch = refl

-- `a || b || c`: 4, 4 + 2 + 2, 2
weight_of_or_on_the_left : weight value (logical Or (logical Or a b) c) ≡ 14
weight_of_or_on_the_left = refl

-- `a || (b || c)`: the right operand's seat is one tighter, so parentheses 4
weight_of_or_on_the_right : weight value (logical Or a (logical Or b c)) ≡ 18
weight_of_or_on_the_right = refl

-- `a || b && c`: `&&` binds tighter: 4, 2, 4 + 2 + 2
weight_of_and_in_or : weight value (logical Or a (logical And b c)) ≡ 14
weight_of_and_in_or = refl

-- `(a || b) && c`: `||` binds looser: 4, 8 in parentheses 4, 2
weight_of_or_in_and : weight value (logical And (logical Or a b) c) ≡ 18
weight_of_or_in_and = refl

-- `a?.()`: 8 + 2
weight_of_optional_call : weight value (call true a none) ≡ 10
weight_of_optional_call = refl

-- `a(b, c)`: 4, 2, the arguments 2 + 2 with a comma 2
weight_of_arguments : weight value (call false a (b ▸ c ▸ none)) ≡ 12
weight_of_arguments = refl

-- `(a || b)()`: 4, 8 in parentheses 4
weight_of_callee : weight value (called (logical Or a b)) ≡ 16
weight_of_callee = refl

-- statements

-- `if (!a) b(); else c();`: 14 and 10, the test 4, two statements of 4 + 4 + 2
weight_of_if_else : weight item (if_else (negation a) (call_statement b) (call_statement c)) ≡ 48
weight_of_if_else = refl

-- `a ? c() : b();`: 4, 4 + 2, two calls of 4 + 2
weight_of_conditional_statement : weight item (expression_statement (conditional a (called c) (called b))) ≡ 22
weight_of_conditional_statement = refl

-- `if (a) b();`: 14, 2, 4 + 4 + 2, and nothing for the `else` that is not there
weight_of_if_alone : weight item (if_alone a (call_statement b)) ≡ 26
weight_of_if_alone = refl

-- `if (a) if (b) c; else d;`: 14 and 2 round 24 + 2 + 6 + 6, which is one heavier than it would be
-- in a list
weight_of_bare_if : weight item (if_alone a (if_else b (expression_statement c) (expression_statement d))) ≡ 55
weight_of_bare_if = refl

-- `if (a) c; else if (b) d; else e;`: 24 + 2 + 6, and 24 + 2 + 6 + 6, since it is no consequent
weight_of_else_if : weight item (if_else a (expression_statement c) (if_else b (expression_statement d) (expression_statement e))) ≡ 70
weight_of_else_if = refl

-- `if (a) if (b) c;`: 14 + 2, and 14 + 2 + 6, since it has no `else`
weight_of_if_in_if : weight item (if_alone a (if_alone b (expression_statement c))) ≡ 38
weight_of_if_in_if = refl

-- `"use strict"; "use asm"; a();`: 2 * 10 + 6, 2 * 7 + 6, and a statement of 4 + 4 + 2
weight_of_directives : program_weight (program false (codes "use strict" ∷ codes "use asm" ∷ []) (call_statement a ▸ none)) ≡ 56
weight_of_directives = refl

-- `a(); b();`: nothing between two statements
weight_of_two_statements : program_weight (program true [] (call_statement a ▸ call_statement b ▸ none)) ≡ 20
weight_of_two_statements = refl

-- a declaration of a class with the name that it holds once more
abbrev class_declaration : Tree → Tree → Tree
class_declaration base again = node (shape.Class true) [] 1 (node shape.BindingIdentifier (unresolved (codes "a") ∷ []) 0 none ▸ base ▸ node shape.ClassBody [] 0 (listed none ▸ none) ▸ again ▸ none)

-- `class a {}`: 16 and 2, and nothing for the name that is held once more
weight_of_class : weight item (class_declaration absent (node shape.BindingIdentifier (unresolved (codes "a") ∷ []) 0 none)) ≡ 18
weight_of_class = refl

-- `class a extends b {}`: 16, 16, and two names of 2
weight_of_derived_class : weight item (class_declaration b (node shape.BindingIdentifier (unresolved (codes "a") ∷ []) 0 none)) ≡ 36
weight_of_derived_class = refl

-- what always gives a boolean

-- `!a && !b`
boolean_and : is_boolean (logical And (negation a) (negation b)) ≡ true
boolean_and = refl

-- `!a && b`
boolean_on_one_side : is_boolean (logical And (negation a) b) ≡ false
boolean_on_one_side = refl

-- `a ? !b : !c`, whatever its test is
boolean_branches : is_boolean (conditional a (negation b) (negation c)) ≡ true
boolean_branches = refl

-- `!a ? b : !c`
boolean_branch : is_boolean (conditional (negation a) b (negation c)) ≡ false
boolean_branch = refl

-- `null`
boolean_null : is_boolean null_literal ≡ false
boolean_null = refl

-- `a`
boolean_name : is_boolean a ≡ false
boolean_name = refl

-- `a()`
boolean_call : is_boolean (called a) ≡ false
boolean_call = refl

-- negations

-- `!a` in `if (!a)`: `a`
negation_in_test : neg if_test_seat (negation a) ≡ a
negation_in_test = refl

-- `!a` where its value is wanted: `!!a`
negation_of_value : neg value_seat (negation a) ≡ negation (negation a)
negation_of_value = refl

-- `!!a` where its value is wanted: `!a`, which gives a boolean anyway
negation_of_boolean : neg value_seat (negation (negation a)) ≡ negation a
negation_of_boolean = refl

-- `!a && b` in a test: `a || !b`
negation_of_and : neg if_test_seat (logical And (negation a) b) ≡ logical Or a (negation b)
negation_of_and = refl

-- `!a && b` where its value is wanted: `!!a || !b`
negation_of_and_value : neg value_seat (logical And (negation a) b) ≡ logical Or (negation (negation a)) (negation b)
negation_of_and_value = refl

-- `!a && !b` as a statement: `a || !!b`, since only the truth of the left operand is asked for
-- there
negation_of_and_statement : neg statement_expression_seat (logical And (negation a) (negation b)) ≡ logical Or a (negation (negation b))
negation_of_and_statement = refl

-- `a ? b : c`: `!(a ? b : c)`
negation_of_conditional : neg if_test_seat (conditional a b c) ≡ negation (conditional a b c)
negation_of_conditional = refl

abbrev says : BinaryOperator → Tree → Tree → Tree
says o l r = node (shape.BinaryExpression o) [] 0 (l ▸ r ▸ none)

-- `a == b`: `a != b`, whatever is asked of it
negation_of_equality : neg value_seat (says binary.Equality a b) ≡ says binary.Inequality a b
negation_of_equality = refl

-- `a !== b && c` in a test: `a === b || !c`
negation_of_inequality : neg if_test_seat (logical And (says binary.StrictInequality a b) c) ≡ logical Or (says binary.StrictEquality a b) (negation c)
negation_of_inequality = refl

-- `a < b`: `!(a < b)`, since both `a < b` and `a >= b` are false of NaN
negation_of_less : neg if_test_seat (says binary.LessThan a b) ≡ negation (says binary.LessThan a b)
negation_of_less = refl

-- `a && b` in a test: `!a || !b` weighs 12, `!(a && b)` 14
lighter_turned : not_of if_test_seat (logical And a b) ≡ logical Or (negation a) (negation b)
lighter_turned = refl

-- `a && b` as the right operand of `&&`: `(!a || !b)` weighs 16, `!(a && b)` 14
lighter_wrapped : not_of (right_operand_seat And if_test_seat) (logical And a b) ≡ negation (logical And a b)
lighter_wrapped = refl

-- `a && b && c` in a test: `!a || !b || !c` and `!(a && b && c)` weigh 20 both
tie_is_turned : not_of if_test_seat (logical And (logical And a b) c) ≡ logical Or (logical Or (negation a) (negation b)) (negation c)
tie_is_turned = refl

-- `!a` is a `!`
negated_result : has_negated_result (negation a) ≡ true
negated_result = refl

-- `a && !b` is none
no_negated_result : has_negated_result (logical And a (negation b)) ≡ false
no_negated_result = refl

-- rewrites

-- `!a ? b : c` becomes `a ? c : b`
swapped : Row40 (conditional (negation a) b c) (conditional a c b)
swapped = record { a = a; b = b; c = c; shape = refl; written = refl }

-- `!!a` in a test becomes `a`
unwrapped_test : Row23 if_test_seat (negation (negation a)) a
unwrapped_test = record { e = negation a; shape = refl; written = refl }

-- and weighs 2 in place of 6
lighter_test : Contracts (Expr if_test_seat) (negation (negation a)) a
lighter_test = record { row = inl unwrapped_test; lighter = lit< tt }

-- `if (!a) b();` becomes `a || b();`, 16 in place of 28
or_written : Contracts item (if_alone (negation a) (call_statement b)) (expression_statement (logical Or a (called b)))
or_written = record { row = inr (inr (record { a = negation a; b = called b; shape = refl; negated = refl; written = refl })); lighter = lit< tt }

-- `if (!a) b(); else c();` becomes `!a ? b() : c();`, 24 in place of 48
conditional_written : Contracts item (if_else (negation a) (call_statement b) (call_statement c)) (expression_statement (conditional (negation a) (called b) (called c)))
conditional_written = record { row = inl (record { a = negation a; b = called b; c = called c; shape = refl; written = refl }); lighter = lit< tt }

-- and that becomes `a ? c() : b();`, where the conditional weighs 18 in place of 20
swapped_calls : Contracts (Expr statement_expression_seat) (conditional (negation a) (called b) (called c)) (conditional a (called c) (called b))
swapped_calls = record { row = inr (record { a = a; b = called b; c = called c; shape = refl; written = refl }); lighter = lit< tt }

-- in two steps, from 48 to 22
two_steps : Reaches Contracts item (if_else (negation a) (call_statement b) (call_statement c)) (expression_statement (conditional a (called c) (called b)))
two_steps = more _ _ _ _ (here _ _ _ conditional_written) (more _ _ _ _ (inside _ _ _ _ _ _ (first _ _ _ _ (here _ _ _ swapped_calls))) (done _ _))

-- the other kinds

abbrev number : ℤ → Tree
number n = leaf (shape.NumericLiteral n)

abbrev sequence : Trees → Tree
sequence ts = node shape.SequenceExpression [] 0 (listed ts ▸ none)

abbrev member : Tree → List ℕ → Tree
member t s = node (shape.StaticMemberExpression false) [] 0 (t ▸ leaf (shape.IdentifierName s) ▸ none)

abbrev block : Trees → Tree
block ts = node shape.BlockStatement [] 0 (listed ts ▸ none)

abbrev lambda : Trees → Tree
lambda body = node (shape.Function false false []) [] 0 (absent ▸ listed none ▸ node shape.FunctionBody [] 0 (listed body ▸ none) ▸ none)

abbrev object : Tree → Tree
object p = node shape.ObjectExpression [] 0 (listed (p ▸ none) ▸ none)

-- `12` and `-12`: two and three characters
weight_of_twelve : weight value (number (pos 12)) ≡ 4
unfolding digits
weight_of_twelve = refl

weight_of_minus_twelve : weight value (number (negsuc 11)) ≡ 6
unfolding digits
weight_of_minus_twelve = refl

-- `-1 + a`, where the literal needs no parentheses, and `(-1) ** a`, where it does
weight_of_a_negative_summand : weight value (says binary.Addition (number (negsuc 0)) a) ≡ 8
unfolding digits
weight_of_a_negative_summand = refl

weight_of_a_negative_base : weight value (says binary.Exponential (number (negsuc 0)) a) ≡ 14
unfolding digits
weight_of_a_negative_base = refl

-- `a ** b ** c`, and `(a ** b) ** c`
weight_of_powers : weight value (says binary.Exponential a (says binary.Exponential b c)) ≡ 14
weight_of_powers = refl

weight_of_powers_from_the_left : weight value (says binary.Exponential (says binary.Exponential a b) c) ≡ 18
weight_of_powers_from_the_left = refl

-- `a ?? (b || c)`, and `a ?? b ?? c`: one is in parentheses for its level, the other for what
-- stands in it
weight_of_a_mixture : weight value (logical Coalesce (logical Or b c) a) ≡ 18
weight_of_a_mixture = refl

weight_of_coalesces : weight value (logical Coalesce (logical Coalesce a b) c) ≡ 14
weight_of_coalesces = refl

-- `null == a`, one more than its text, and `a == null`
weight_of_a_plain_left_side : weight value (says binary.Equality null_literal a) ≡ 15
weight_of_a_plain_left_side = refl

weight_of_a_plain_right_side : weight value (says binary.Equality a null_literal) ≡ 14
weight_of_a_plain_right_side = refl

-- `void 0 == a`, one more too
weight_of_void : weight value (says binary.Equality (unary Void (number (pos 0))) a) ≡ 19
unfolding digits
weight_of_void = refl

-- `a != b ? c : d`, one more than its text
weight_of_an_unequal_test : weight value (conditional (says binary.Inequality a b) c d) ≡ 17
weight_of_an_unequal_test = refl

-- `!(a, b)`, one more than its text
weight_of_a_lifted_sequence : weight value (negation (sequence (a ▸ b ▸ none))) ≡ 13
weight_of_a_lifted_sequence = refl

-- `a, !(!b)`: the last part of a tested sequence is tested, and the others are left
weight_of_a_sequence : weight value (sequence (a ▸ logical And b (logical And c d) ▸ e ▸ none)) ≡ 26
weight_of_a_sequence = refl

-- `a.x`, and `(a, b).x`
weight_of_a_member : weight value (member a (codes "x")) ≡ 6
weight_of_a_member = refl

weight_of_a_member_of_a_sequence : weight value (member (sequence (a ▸ b ▸ none)) (codes "x")) ≡ 14
weight_of_a_member_of_a_sequence = refl

-- `(a?.x).x`, whose chain is in parentheses
weight_of_a_chain_in_a_member : weight value (member (node shape.ChainExpression [] 0 (node (shape.StaticMemberExpression true) [] 0 (a ▸ leaf (shape.IdentifierName (codes "x")) ▸ none) ▸ none)) (codes "x")) ≡ 16
weight_of_a_chain_in_a_member = refl

-- `new (a())()`
weight_of_new_of_a_call : weight value (node shape.NewExpression [] 0 (called a ▸ listed none ▸ none)) ≡ 22
weight_of_new_of_a_call = refl

-- `[a, , b]`: a hole adds its comma alone
weight_of_a_hole : weight value (node shape.ArrayExpression [] 0 (listed (a ▸ absent ▸ b ▸ none) ▸ none)) ≡ 12
weight_of_a_hole = refl

-- `function () {}`
weight_of_a_function : weight value (lambda none) ≡ 24
weight_of_a_function = refl

-- `{ x() {} }`: its key, and the function less 16
weight_of_a_method : weight value (object (node (shape.ObjectProperty Init true false false) [] 0 (leaf (shape.IdentifierName (codes "x")) ▸ lambda none ▸ none))) ≡ 14
weight_of_a_method = refl

-- `{ x: a }`, and `{ a }`, which is written once
weight_of_a_property : weight value (object (node (shape.ObjectProperty Init false false false) [] 0 (leaf (shape.IdentifierName (codes "x")) ▸ a ▸ none))) ≡ 10
weight_of_a_property = refl

weight_of_a_shorthand : weight value (object (node (shape.ObjectProperty Init false true false) [] 0 (leaf (shape.IdentifierName (codes "a")) ▸ a ▸ none))) ≡ 6
weight_of_a_shorthand = refl

-- as a consequent, `{ if (a) b(); else c(); }` has no braces of its own, and the bare `if` is one
-- heavier
weight_of_a_block_round_if : weight (Stmt stmt_seat.Consequent) (block (if_else a (call_statement b) (call_statement c) ▸ none)) ≡ 46
weight_of_a_block_round_if = refl

weight_of_the_bare_if : weight (Stmt stmt_seat.Consequent) (if_else a (call_statement b) (call_statement c)) ≡ 47
weight_of_the_bare_if = refl

weight_of_a_block_elsewhere : weight item (block (if_else a (call_statement b) (call_statement c) ▸ none)) ≡ 50
weight_of_a_block_elsewhere = refl

-- `var a;`, and `for (var a of b) ;`
abbrev declared : Tree
declared = node (shape.VariableDeclaration Var) [] 0 (listed (node shape.VariableDeclarator [] 0 (node shape.BindingIdentifier (unresolved (codes "a") ∷ []) 0 none ▸ absent ▸ none) ▸ none) ▸ none)

weight_of_a_declaration : weight item declared ≡ 12
weight_of_a_declaration = refl

weight_of_a_loop : weight item (node shape.ForOfStatement [] 0 (declared ▸ b ▸ empty_statement ▸ none)) ≡ 30
weight_of_a_loop = refl

-- `\`a${b}c\``
weight_of_a_template : weight value (node shape.TemplateLiteral [] 0 (listed (leaf (shape.TemplateElement false (codes "a") (Some (codes "a"))) ▸ leaf (shape.TemplateElement true (codes "c") (Some (codes "c"))) ▸ none) ▸ listed (b ▸ none) ▸ none)) ≡ 16
weight_of_a_template = refl

-- the last part of a sequence whose truth alone is asked for, and one before it
seat_of_the_last_part : part_seat if_test_seat 3 2 ≡ record (seat_of_level 1) { boolean = true }
seat_of_the_last_part = refl

seat_of_a_passed_part : part_seat if_test_seat 3 1 ≡ record (seat_of_level 1) { unused = true }
seat_of_a_passed_part = refl

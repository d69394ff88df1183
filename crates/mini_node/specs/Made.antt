-- A node of a kind is made of its parts.
use Rattle.std.specs.Prelude.{◌∷◌, ℕ, ℤ, List, Some, None, zero, Bool, true, false, [], ◌&&◌, ◌≡◌, refl}
use Rattle.std.proofs.Common.{ap, ◌∙◌}
use Rattle.std.proofs.lemmas.Bool.{false≢true}
use Rattle.mini_model.specs.declared.operator.LogicalOperator.TheVariants.{Or, And, Coalesce}
use Rattle.mini_model.specs.declared.name.Name.{Name}
use Rattle.mini_model.specs.declared.operator.AssignmentOperator.{AssignmentOperator}
use Rattle.mini_model.specs.declared.operator.BinaryOperator.{BinaryOperator}
use Rattle.mini_model.specs.declared.operator.LogicalOperator.{LogicalOperator}
use Rattle.mini_model.specs.declared.operator.UnaryOperator.{UnaryOperator}
use Rattle.mini_model.specs.declared.operator.UnaryOperator.TheVariants.{LogicalNot}
use Rattle.mini_model.specs.declared.shape.Shape.TheVariants as shape
use Rattle.mini_model.specs.Tree.{unary, call, identifier, null_literal, Tree, node, none, ◌▸◌, children, absent, listed, negation, logical, conditional, expression_statement, empty_statement, if_else, if_alone}
use Rattle.mini_node.specs.Children.{part}
use Rattle.mini_node.specs.Kinds.{binary, assignment, static_member, computed_member, numeric_literal, boolean_literal, string_literal, unary_operator, binary_operator, logical_operator, assignment_operator, number, boolean, string, is_null, is_identifier, is_call_expression, is_static_member, is_computed_member, sequence, block, return_statement, throw_statement, is_absent_part, is_listed, is_negation, is_logical, is_conditional, is_sequence, is_expression_statement, is_empty_statement, is_block, is_if_statement, is_if_alone, is_return_statement, is_throw_statement}

pub absent_is : (t : Tree) → is_absent_part t ≡ true → t ≡ absent
absent_is (node shape.Absent [] zero none) e = refl
absent_is t e = absurd (false≢true e)

pub listed_is : (t : Tree) → is_listed t ≡ true → t ≡ listed (children t)
listed_is (node shape.Listed [] zero ts) e = refl
listed_is t e = absurd (false≢true e)

pub negation_is : (t : Tree) → is_negation t ≡ true → t ≡ negation (part t 0)
negation_is (node (shape.UnaryExpression LogicalNot) [] zero (a ▸ none)) e = refl
negation_is t e = absurd (false≢true e)

pub and_is : (t : Tree) → is_logical And t ≡ true → t ≡ logical And (part t 0) (part t 1)
and_is (node (shape.LogicalExpression And) [] zero (a ▸ b ▸ none)) e = refl
and_is t e = absurd (false≢true e)

pub or_is : (t : Tree) → is_logical Or t ≡ true → t ≡ logical Or (part t 0) (part t 1)
or_is (node (shape.LogicalExpression Or) [] zero (a ▸ b ▸ none)) e = refl
or_is t e = absurd (false≢true e)

pub coalesce_is : (t : Tree) → is_logical Coalesce t ≡ true → t ≡ logical Coalesce (part t 0) (part t 1)
coalesce_is (node (shape.LogicalExpression Coalesce) [] zero (a ▸ b ▸ none)) e = refl
coalesce_is t e = absurd (false≢true e)

pub conditional_is : (t : Tree) → is_conditional t ≡ true → t ≡ conditional (part t 0) (part t 1) (part t 2)
conditional_is (node shape.ConditionalExpression [] zero (a ▸ b ▸ c ▸ none)) e = refl
conditional_is t e = absurd (false≢true e)

pub sequence_is : (t : Tree) → is_sequence t ≡ true → t ≡ sequence (children (part t 0))
sequence_is (node shape.SequenceExpression [] zero (node shape.Listed [] zero ts ▸ none)) e = refl
sequence_is (node shape.SequenceExpression [] zero (u ▸ none)) e = absurd (false≢true e)
sequence_is t e = absurd (false≢true e)

pub expression_statement_is : (t : Tree) → is_expression_statement t ≡ true → t ≡ expression_statement (part t 0)
expression_statement_is (node shape.ExpressionStatement [] zero (a ▸ none)) e = refl
expression_statement_is t e = absurd (false≢true e)

pub empty_statement_is : (t : Tree) → is_empty_statement t ≡ true → t ≡ empty_statement
empty_statement_is (node shape.EmptyStatement [] zero none) e = refl
empty_statement_is t e = absurd (false≢true e)

pub block_is : (t : Tree) → is_block t ≡ true → t ≡ block (children (part t 0))
block_is (node shape.BlockStatement [] zero (node shape.Listed [] zero ts ▸ none)) e = refl
block_is (node shape.BlockStatement [] zero (u ▸ none)) e = absurd (false≢true e)
block_is t e = absurd (false≢true e)

pub if_statement_is : (t : Tree) → is_if_statement t ≡ true → t ≡ if_else (part t 0) (part t 1) (part t 2)
if_statement_is (node shape.IfStatement [] zero (a ▸ b ▸ c ▸ none)) e = refl
if_statement_is t e = absurd (false≢true e)

both : (a b : Bool) → (a && b) ≡ true → (a ≡ true) × (b ≡ true)
both true true e = (refl, refl)
both true false e = absurd (false≢true e)
both false b e = absurd (false≢true e)

pub if_alone_is : (t : Tree) → is_if_alone t ≡ true → t ≡ if_alone (part t 0) (part t 1)
if_alone_is t e =
    let (statement, missing) = both (is_if_statement t) (is_absent_part (part t 2)) e in
    if_statement_is t statement ∙ ap (λ u. if_else (part t 0) (part t 1) u) (absent_is (part t 2) missing)

pub return_statement_is : (t : Tree) → is_return_statement t ≡ true → t ≡ return_statement (part t 0)
return_statement_is (node shape.ReturnStatement [] zero (a ▸ none)) e = refl
return_statement_is t e = absurd (false≢true e)

pub throw_statement_is : (t : Tree) → is_throw_statement t ≡ true → t ≡ throw_statement (part t 0)
throw_statement_is (node shape.ThrowStatement [] zero (a ▸ none)) e = refl
throw_statement_is t e = absurd (false≢true e)

-- ---- of what it carries

same : {A : Type 0} (x y : A) → Some x ≡ Some y → x ≡ y
same {A = A} x y e = ap (λ o. elim o as (λ w. A) [ None ↦ x | Some z ↦ z ]) e

nothing : {A : Type 0} (x : A) → None ≡ Some x → ⊥
nothing x e = cc e

pub unary_is : (t : Tree) (o : UnaryOperator) → unary_operator t ≡ Some o → t ≡ unary o (part t 0)
unary_is (node (shape.UnaryExpression p) [] zero (a ▸ none)) o e = ap (λ q. unary q a) (same p o e)
unary_is t o e = absurd (nothing o e)

pub binary_is : (t : Tree) (o : BinaryOperator) → binary_operator t ≡ Some o → t ≡ binary o (part t 0) (part t 1)
binary_is (node (shape.BinaryExpression p) [] zero (a ▸ b ▸ none)) o e = ap (λ q. binary q a b) (same p o e)
binary_is t o e = absurd (nothing o e)

pub logical_is : (t : Tree) (o : LogicalOperator) → logical_operator t ≡ Some o → t ≡ logical o (part t 0) (part t 1)
logical_is (node (shape.LogicalExpression p) [] zero (a ▸ b ▸ none)) o e = ap (λ q. logical q a b) (same p o e)
logical_is t o e = absurd (nothing o e)

pub assignment_is : (t : Tree) (o : AssignmentOperator) → assignment_operator t ≡ Some o → t ≡ assignment o (part t 0) (part t 1)
assignment_is (node (shape.AssignmentExpression p) [] zero (a ▸ b ▸ none)) o e = ap (λ q. assignment q a b) (same p o e)
assignment_is t o e = absurd (nothing o e)

pub number_is : (t : Tree) (n : ℤ) → number t ≡ Some n → t ≡ numeric_literal n
number_is (node (shape.NumericLiteral m) [] zero none) n e = ap numeric_literal (same m n e)
number_is t n e = absurd (nothing n e)

pub boolean_is : (t : Tree) (b : Bool) → boolean t ≡ Some b → t ≡ boolean_literal b
boolean_is (node (shape.BooleanLiteral a) [] zero none) b e = ap boolean_literal (same a b e)
boolean_is t b e = absurd (nothing b e)

pub string_is : (t : Tree) (s : List ℕ) → string t ≡ Some s → t ≡ string_literal s
string_is (node (shape.StringLiteral r) [] zero none) s e = ap string_literal (same r s e)
string_is t s e = absurd (nothing s e)

pub null_is : (t : Tree) → is_null t ≡ true → t ≡ null_literal
null_is (node shape.NullLiteral [] zero none) e = refl
null_is t e = absurd (false≢true e)

pub identifier_is : (t : Tree) → is_identifier t ≡ true → (x : Name) × (t ≡ identifier x)
identifier_is (node shape.Identifier (x ∷ []) zero none) e = (x, refl)
identifier_is t e = absurd (false≢true e)

pub call_expression_is : (t : Tree) → is_call_expression t ≡ true → t ≡ call false (part t 0) (children (part t 1))
call_expression_is (node (shape.CallExpression false) [] zero (f ▸ node shape.Listed [] zero us ▸ none)) e = refl
call_expression_is (node (shape.CallExpression false) [] zero (f ▸ u ▸ none)) e = absurd (false≢true e)
call_expression_is t e = absurd (false≢true e)

pub static_member_is : (t : Tree) → is_static_member t ≡ true → t ≡ static_member (part t 0) (part t 1)
static_member_is (node (shape.StaticMemberExpression false) [] zero (a ▸ b ▸ none)) e = refl
static_member_is t e = absurd (false≢true e)

pub computed_member_is : (t : Tree) → is_computed_member t ≡ true → t ≡ computed_member (part t 0) (part t 1)
computed_member_is (node (shape.ComputedMemberExpression false) [] zero (a ▸ b ▸ none)) e = refl
computed_member_is t e = absurd (false≢true e)

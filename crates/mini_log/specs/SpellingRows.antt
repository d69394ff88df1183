-- The rows of a log on how an expression, or an argument that is undefined, is spelled: 19, 33, 34,
-- 54, 55, 58, 60 and 65. Each row has some forms: a test of the shape with the side conditions, and
-- what is written. No form weighs the node: `RowStep` does.
use Rattle.std.specs.Prelude.{ℕ, Bool, true, false, ◌&&◌, ◌||◌, nat_le, length, List, [], ◌∷◌, codes, Option, Some, None, option_map, option_and_then, ℤ, pos}
use Rattle.mini_model.specs.declared.name.Name.{Name}
use Rattle.mini_model.specs.declared.name.SymbolId.{SymbolId}
use Rattle.mini_model.specs.declared.operator.AssignmentOperator.{AssignmentOperator}
use Rattle.mini_model.specs.declared.operator.AssignmentOperator.TheVariants as assigning
use Rattle.mini_model.specs.declared.operator.BinaryOperator.{BinaryOperator}
use Rattle.mini_model.specs.declared.operator.BinaryOperator.TheVariants.{Equality, Inequality, StrictEquality, StrictInequality, LessThan, GreaterThan}
use Rattle.mini_model.specs.declared.operator.LogicalOperator.{LogicalOperator}
use Rattle.mini_model.specs.declared.operator.LogicalOperator.TheVariants.{Or, And, Coalesce}
use Rattle.mini_model.specs.declared.operator.UpdateOperator.{UpdateOperator}
use Rattle.mini_model.specs.declared.shape.Shape.{Shape}
use Rattle.mini_model.specs.declared.shape.Shape.TheVariants as shape
use Rattle.mini_model.specs.Numerals.{safe_number}
use Rattle.mini_model.specs.Position.{is_equality}
use Rattle.mini_model.specs.Texts.{is_identifier_name}
use Rattle.mini_model.specs.Tree.{Tree, node, none, ◌▸◌, leaf, absent, shape_of, negation, null_literal}
use Rattle.mini_laws.specs.Value.{Declared, VariableSet}
use Rattle.mini_node.specs.Children.{part, names_of, is_bare}
use Rattle.mini_node.specs.Equal.{same_tree}
use Rattle.mini_node.specs.Kinds.{binary, assignment, numeric_literal, string_literal, return_statement, carried, boolean, string, unary_operator, binary_operator, logical_operator, assignment_operator, is_identifier, is_return_statement, is_computed_member}
use Rattle.mini_terms.specs.Folds.{is_effect_free}
use Rattle.mini_terms.specs.Parts.{leaves_nothing}
use Rattle.mini_terms.specs.Plain.{void_zero}
use Rattle.mini_terms.specs.Reading.{is_typed_by_value}
use Rattle.mini_log.specs.Terms.{when, is_assign, is_void, is_typeof, is_text, is_void_zero, is_undefined, is_unresolved, is_text_template, is_plain, is_ready}
use Rattle.mini_log.specs.Walk.{or_else}

-- ---- 19

-- the text of a piece of a template. It is no longer than what is written, as in any program
abbrev pub piece_text : Shape → Option Tree
piece_text (shape.TemplateElement is_tail raw (Some cooked)) = when (nat_le (length cooked) (length raw)) (string_literal cooked)
piece_text _ = None

abbrev pub when_there : Bool → Option Tree → Option Tree
when_there true w = w
when_there false w = None

-- 19: a template without expressions becomes its text
abbrev pub untemplated : Tree → Option Tree
untemplated t = when_there (is_text_template t) (piece_text (shape_of (part (part t 0) 0)))

-- ---- 33

-- `o.k` and `o?.k`
abbrev pub static_member : Bool → Tree → Tree → Tree
static_member is_optional o k = node (shape.StaticMemberExpression is_optional) [] 0 (o ▸ k ▸ none)

-- whether an `o[k]` is an `o?.[k]`
abbrev pub optional_in : Shape → Option Bool
optional_in (shape.ComputedMemberExpression is_optional) = Some is_optional
optional_in _ = None

abbrev pub optional_member : Tree → Option Bool
optional_member t = carried (optional_in (shape_of t)) (is_bare t 2)

abbrev pub named_by : Tree → List ℕ → Bool → Option Tree
named_by t s is_optional = when (is_identifier_name s) (static_member is_optional (part t 0) (leaf (shape.IdentifierName s)))

-- 33: `o["x"]` becomes `o.x`
abbrev pub named_key : Tree → Option Tree
named_key t = option_and_then (λ s. option_and_then (named_by t s) (optional_member t)) (string (part t 1))

abbrev pub numbered_by : Tree → ℤ → Option Tree
numbered_by t n = when (is_computed_member t) (node (shape.ComputedMemberExpression false) [] 0 (part t 0 ▸ numeric_literal n ▸ none))

-- 33: `o["1"]` becomes `o[1]`
abbrev pub numbered_key : Tree → Option Tree
numbered_key t = option_and_then (λ s. option_and_then (numbered_by t) (safe_number s)) (string (part t 1))

abbrev pub dotted : Tree → Option Tree
dotted t = or_else (named_key t) (numbered_key t)

-- 33, of what is assigned to: `o["x"] = v` becomes `o.x = v`
abbrev pub dotted_target : Tree → Option Tree
dotted_target t = option_and_then (λ o. option_map (λ m. assignment o m (part t 1)) (dotted (part t 0))) (assignment_operator t)

abbrev pub update_in : Shape → Option (UpdateOperator × Bool)
update_in (shape.UpdateExpression o is_prefix) = Some (o, is_prefix)
update_in _ = None

abbrev pub updated_by : Tree → UpdateOperator × Bool → Option Tree
updated_by t o = option_map (λ m. node (shape.UpdateExpression o.0 o.1) [] 0 (m ▸ none)) (dotted (part t 0))

-- 33, of what is updated: `o["x"]++` becomes `o.x++`
abbrev pub dotted_update : Tree → Option Tree
dotted_update t = option_and_then (updated_by t) (carried (update_in (shape_of t)) (is_bare t 1))

-- ---- 34

-- `x ||= b` of `||`
abbrev pub deciding : LogicalOperator → AssignmentOperator
deciding Or = assigning.LogicalOr
deciding And = assigning.LogicalAnd
deciding Coalesce = assigning.LogicalNullish

-- a name that a scope declares, whose variable can be written
abbrev pub has_writable : VariableSet → Option SymbolId → Bool
has_writable W (Some k) = W (Declared k.0)
has_writable W None = false

abbrev pub is_writable_name : VariableSet → List Name → Bool
is_writable_name W (x ∷ []) = has_writable W x.symbol
is_writable_name W xs = false

abbrev pub is_writable : VariableSet → Tree → Bool
is_writable W t = is_identifier t && is_writable_name W (names_of t)

abbrev pub combined_by : VariableSet → Tree → LogicalOperator → Option Tree
combined_by W t o = when (is_assign (assignment_operator t) && (is_writable W (part t 0) && same_tree (part t 0) (part (part t 1) 0))) (assignment (deciding o) (part t 0) (part (part t 1) 1))

-- 34: `x = x || b` becomes `x ||= b`, where x is resolved and writable
abbrev pub combined : VariableSet → Tree → Option Tree
combined W t = option_and_then (combined_by W t) (logical_operator (part t 1))

-- ---- 54, 55, 58

abbrev pub turned_by : Tree → BinaryOperator → Option Tree
turned_by t o = when (is_equality o && (is_plain (part t 0) && is_ready (part t 1))) (binary o (part t 1) (part t 0))

-- 54: an equality swaps, whose left side is Plain and whose right one isn't. A sequence stays on
-- the right, where it weighs as much
abbrev pub turned : Tree → Option Tree
turned t = option_and_then (turned_by t) (binary_operator t)

-- `typeof e` beside the text `undefined`, in an equality
abbrev pub asks_undefined : Tree → BinaryOperator → Bool
asks_undefined t o = is_equality o && (is_typeof (unary_operator (part t 0)) && is_text (codes "undefined") (string (part t 1)))

-- the order that holds beside `u` where the equality holds beside `undefined`: of the texts that
-- `typeof` gives that one alone is greater than `u` (ECMA-262, "The typeof Operator")
abbrev pub order_for : BinaryOperator → BinaryOperator
order_for Equality = GreaterThan
order_for StrictEquality = GreaterThan
order_for o = LessThan

abbrev pub strict_for : BinaryOperator → BinaryOperator
strict_for Equality = StrictEquality
strict_for StrictEquality = StrictEquality
strict_for o = StrictInequality

abbrev pub ordered_by : Tree → BinaryOperator → Option Tree
ordered_by t o = when (asks_undefined t o && is_unresolved (part (part t 0) 0)) (binary (order_for o) (part t 0) (string_literal (codes "u")))

-- 55: `typeof x == "undefined"` becomes `typeof x > "u"`, and `!=` `<`, of an unresolved x
abbrev pub ordered : Tree → Option Tree
ordered t = option_and_then (ordered_by t) (binary_operator t)

abbrev pub compared_by : Tree → BinaryOperator → Option Tree
compared_by t o = when (asks_undefined t o && is_typed_by_value (part (part t 0) 0)) (binary (strict_for o) (part (part t 0) 0) void_zero)

-- 55: of another operand e it becomes `e === void 0`, and `!==`
abbrev pub compared : Tree → Option Tree
compared t = option_and_then (compared_by t) (binary_operator t)

abbrev pub is_loose : BinaryOperator → Bool
is_loose Equality = true
is_loose Inequality = true
is_loose _ = false

abbrev pub null_left_by : Tree → BinaryOperator → Option Tree
null_left_by t o = when (is_loose o && is_undefined (part t 0)) (binary o null_literal (part t 1))

-- 58: `undefined == b` becomes `null == b`
abbrev pub null_left : Tree → Option Tree
null_left t = option_and_then (null_left_by t) (binary_operator t)

abbrev pub null_right_by : Tree → BinaryOperator → Option Tree
null_right_by t o = when (is_loose o && is_undefined (part t 1)) (binary o (part t 0) null_literal)

-- 58: `a == undefined` becomes `a == null`
abbrev pub null_right : Tree → Option Tree
null_right t = option_and_then (null_right_by t) (binary_operator t)

-- ---- 60, 65

-- `void e` of an effect-free e
abbrev pub is_idle_void : Tree → Bool
is_idle_void t = is_void (unary_operator t) && (is_effect_free (part t 0) && leaves_nothing (part t 0))

-- 60: `return undefined;` and `return void e;` become `return;`
abbrev pub bare_return : Tree → Option Tree
bare_return t = when (is_return_statement t && (is_undefined (part t 0) || is_idle_void (part t 0))) (return_statement absent)

abbrev pub is_yield_shape : Shape → Bool
is_yield_shape (shape.YieldExpression false) = true
is_yield_shape _ = false

-- 60: `yield void 0` becomes `yield`
abbrev pub bare_yield : Tree → Option Tree
bare_yield t = when (is_yield_shape (shape_of t) && (is_bare t 1 && is_void_zero (part t 0))) (node (shape.YieldExpression false) [] 0 (absent ▸ none))

-- `!0` and `!1`
abbrev pub digit : Bool → Tree
digit true = negation (numeric_literal (pos 0))
digit false = negation (numeric_literal (pos 1))

-- 65: `true` becomes `!0`, and `false` `!1`
abbrev pub spelled : Tree → Option Tree
spelled t = option_map digit (boolean t)

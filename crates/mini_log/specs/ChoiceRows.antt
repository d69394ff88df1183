-- The rows of a log on negations, conditionals, logical expressions and `if`: 23, 39, 40, 41, 42
-- and 82. Each row has some forms: a test of the shape with the side conditions, and what is
-- written. No form weighs the node: `RowStep` does.
use Rattle.std.specs.Prelude.{Bool, true, false, not, ◌&&◌, ◌||◌, [], zero, Option, Some, None, option_map, option_and_then}
use Rattle.mini_model.specs.declared.operator.BinaryOperator.{BinaryOperator}
use Rattle.mini_model.specs.declared.operator.BinaryOperator.TheVariants.{Equality, Inequality, StrictEquality, StrictInequality}
use Rattle.mini_model.specs.declared.operator.LogicalOperator.{LogicalOperator}
use Rattle.mini_model.specs.declared.operator.LogicalOperator.TheVariants.{Or, And}
use Rattle.mini_model.specs.declared.operator.UnaryOperator.TheVariants.{LogicalNot}
use Rattle.mini_model.specs.declared.seat.Seat.{Seat}
use Rattle.mini_model.specs.declared.shape.Shape.{Shape}
use Rattle.mini_model.specs.declared.shape.Shape.TheVariants as shape
use Rattle.mini_model.specs.Terms.{has_negated_result}
use Rattle.mini_model.specs.Tree.{Tree, Trees, node, none, ◌▸◌, children, logical, conditional, expression_statement}
use Rattle.mini_node.specs.Children.{part}
use Rattle.mini_node.specs.Equal.{same_tree}
use Rattle.mini_node.specs.Kinds.{sequence, binary, same_logical, logical_operator, is_logical, binary_operator, is_negation, is_conditional, is_identifier, is_expression_statement, is_empty_statement, is_block, is_if_statement, is_if_alone}
use Rattle.mini_rows.specs.Negations.{whole}
use Rattle.mini_rows.specs.Nesting.{may_join}
use Rattle.mini_log.specs.Terms.{when}

-- 23: `!e` becomes Neg(e)
abbrev pub negated : Seat → Tree → Option Tree
negated s t = when (is_negation t) (whole s (part t 0))

-- ---- 39

-- no expression of this operator, and no inner one
abbrev pub is_apart_by : LogicalOperator → Shape → Bool
is_apart_by o (shape.LogicalExpression p) = not (same_logical p o)
is_apart_by o shape.InnerExpression = false
is_apart_by o _ = true

abbrev pub is_apart : LogicalOperator → Tree → Bool
is_apart o (node h xs n ts) = is_apart_by o h

abbrev pub rotated_by : Tree → LogicalOperator → Option Tree
rotated_by t o = when (is_logical o (part t 1) && is_apart o (part (part t 1) 0)) (logical o (logical o (part t 0) (part (part t 1) 0)) (part (part t 1) 1))

-- 39: `a op (b op c)` becomes `(a op b) op c`. Where b is of that operator nothing gets lighter
abbrev pub rotated : Tree → Option Tree
rotated t = option_and_then (rotated_by t) (logical_operator t)

-- ---- 40

-- 40: `!a ? b : c` becomes `a ? c : b`
abbrev pub swapped : Tree → Option Tree
swapped t = when (is_conditional t && is_negation (part t 0)) (conditional (part (part t 0) 0) (part t 2) (part t 1))

-- the equality for an inequality
abbrev pub turned_equal : BinaryOperator → Option BinaryOperator
turned_equal Inequality = Some Equality
turned_equal StrictInequality = Some StrictEquality
turned_equal o = None

abbrev pub swapped_by : Tree → BinaryOperator → Option Tree
swapped_by t o = when (is_conditional t) (conditional (binary o (part (part t 0) 0) (part (part t 0) 1)) (part t 2) (part t 1))

-- 40: `a != b ? c : d` becomes `a == b ? d : c`, and so of `!==`
abbrev pub swapped_equal : Tree → Option Tree
swapped_equal t = option_and_then (swapped_by t) (option_and_then turned_equal (binary_operator (part t 0)))

-- ---- 41, 42

-- 41: `x ? x : b` becomes `x || b`
abbrev pub own_consequent : Tree → Option Tree
own_consequent t = when (is_conditional t && (is_identifier (part t 0) && same_tree (part t 0) (part t 1))) (logical Or (part t 0) (part t 2))

-- 41: `x ? b : x` becomes `x && b`
abbrev pub own_alternate : Tree → Option Tree
own_alternate t = when (is_conditional t && (is_identifier (part t 0) && same_tree (part t 0) (part t 2))) (logical And (part t 0) (part t 1))

-- 42: `a ? b ? c : d : d` becomes `a && b ? c : d`. Trees that nest 500 nodes deep aren't put
-- deeper: a list of conditionals as long as a program would be an expression as deep
abbrev pub same_alternate : Tree → Option Tree
same_alternate t = when (is_conditional t && (is_conditional (part t 1) && (same_tree (part (part t 1) 2) (part t 2) && may_join (part t 0) (part (part t 1) 0)))) (conditional (logical And (part t 0) (part (part t 1) 0)) (part (part t 1) 1) (part t 2))

-- 42: `a ? b : c ? b : d` becomes `a || c ? b : d`
abbrev pub same_consequent : Tree → Option Tree
same_consequent t = when (is_conditional t && (is_conditional (part t 2) && (same_tree (part t 1) (part (part t 2) 1) && may_join (part t 0) (part (part t 2) 0)))) (conditional (logical Or (part t 0) (part (part t 2) 0)) (part t 1) (part (part t 2) 2))

-- ---- 82

-- Not(e) of an expression whose result is a `!`: `a` of `!a`, and `a, b` of `a, !b`
abbrev mutual
  pub unnegated : Tree → Option Tree
  unnegated (node (shape.UnaryExpression LogicalNot) [] zero (a ▸ none)) = Some a
  unnegated (node shape.SequenceExpression [] zero (node shape.Listed [] zero (a ▸ (b ▸ ts)) ▸ none)) = option_map (λ us. sequence (a ▸ us)) (unnegated_last (b ▸ ts))
  unnegated _ = None

  pub unnegated_last : Trees → Option Trees
  unnegated_last none = None
  unnegated_last (a ▸ none) = option_map (λ w. w ▸ none) (unnegated a)
  unnegated_last (a ▸ (b ▸ ts)) = option_map (λ us. a ▸ us) (unnegated_last (b ▸ ts))

-- `;` and `{}`
abbrev pub holds_nothing : Trees → Bool
holds_nothing none = true
holds_nothing (t ▸ ts) = false

abbrev pub is_empty : Tree → Bool
is_empty t = is_empty_statement t || (is_block t && holds_nothing (children (part t 0)))

-- `if (a) b; else c;` of expressions, `if (a) b;`, and `if (a); else c;`
abbrev pub is_two_branched : Tree → Bool
is_two_branched t = is_if_statement t && (is_expression_statement (part t 1) && is_expression_statement (part t 2))

abbrev pub is_one_branched : Tree → Bool
is_one_branched t = is_if_alone t && is_expression_statement (part t 1)

abbrev pub is_else_branched : Tree → Bool
is_else_branched t = is_if_statement t && (is_empty (part t 1) && is_expression_statement (part t 2))

-- 82: `if (a) b; else c;` becomes `a ? b : c`
abbrev pub chosen : Tree → Option Tree
chosen t = when (is_two_branched t) (expression_statement (conditional (part t 0) (part (part t 1) 0) (part (part t 2) 0)))

abbrev pub joined_by : LogicalOperator → Tree → Tree → Tree
joined_by o a c = expression_statement (logical o a (part c 0))

-- 82: `if (a) b;` becomes `Not(a) || b` where the result of a is a `!`
abbrev pub disjoined : Tree → Option Tree
disjoined t = option_and_then (λ a. when (is_one_branched t) (joined_by Or a (part t 1))) (unnegated (part t 0))

-- and else `a && b`
abbrev pub conjoined : Tree → Option Tree
conjoined t = when (is_one_branched t && not (has_negated_result (part t 0))) (joined_by And (part t 0) (part t 1))

-- 82: `if (a); else b;` becomes `Not(a) && b` where the result of a is a `!`
abbrev pub else_conjoined : Tree → Option Tree
else_conjoined t = option_and_then (λ a. when (is_else_branched t) (joined_by And a (part t 2))) (unnegated (part t 0))

-- and else `a || b`
abbrev pub else_disjoined : Tree → Option Tree
else_disjoined t = when (is_else_branched t && not (has_negated_result (part t 0))) (joined_by Or (part t 0) (part t 2))

-- The rows of a log on what is known of an expression from its text: 1, 3, 7, 12, 13, 15 and 49.
-- Each row has some forms: a test of the shape with the side conditions, and what is written. No
-- form weighs the node: `RowStep` does.
--
-- Beside the table's conditions there stand `leaves_nothing` of an effect-free part that goes,
-- `weighs` of any part that goes, and `encloses` of one that isn't evaluated: each expression of an
-- accepted program meets them, and not each tree. `suits` is the guard rule by refusal: where the
-- table writes `0, r` there is no form.
use Rattle.std.specs.Prelude.{ℕ, zero, Bool, true, false, not, ◌&&◌, ◌||◌, ◌+◌, nat_le, [], codes, Option, option_and_then, pos}
use Rattle.mini_model.specs.declared.operator.BinaryOperator.{BinaryOperator}
use Rattle.mini_model.specs.declared.operator.BinaryOperator.TheVariants.{Addition}
use Rattle.mini_model.specs.declared.operator.LogicalOperator.{LogicalOperator}
use Rattle.mini_model.specs.declared.operator.LogicalOperator.TheVariants.{And}
use Rattle.mini_model.specs.declared.place.Position.TheVariants.{Expr}
use Rattle.mini_model.specs.declared.seat.Seat.{Seat}
use Rattle.mini_model.specs.declared.shape.Shape.{Shape}
use Rattle.mini_model.specs.declared.shape.Shape.TheVariants as shape
use Rattle.mini_model.specs.Position.{is_and_or}
use Rattle.mini_model.specs.Tree.{Tree, none, ◌▸◌, shape_of}
use Rattle.mini_model.specs.Weight.{same_text, weight}
use Rattle.mini_laws.specs.Value.{Value}
use Rattle.mini_node.specs.Children.{part, names_of}
use Rattle.mini_node.specs.Equal.{same_tree}
use Rattle.mini_node.specs.Kinds.{sequence, unary_operator, binary_operator, logical_operator, assignment_operator, string, is_conditional, is_identifier, is_static_member, is_computed_member}
use Rattle.mini_terms.specs.Calculated.{calculated}
use Rattle.mini_terms.specs.Folds.{is_effect_free, goes_on, stops}
use Rattle.mini_terms.specs.declared.kinds.Kind.{Kind}
use Rattle.mini_terms.specs.declared.kinds.Kind.TheVariants.{String as IsString}
use Rattle.mini_terms.specs.Kind.{kind}
use Rattle.mini_terms.specs.Parts.{suits, leaves_nothing, weighs}
use Rattle.mini_terms.specs.Plain.{lit}
use Rattle.mini_rows.specs.Lists.{encloses}
use Rattle.mini_log.specs.Terms.{when, is_assign, is_spelled, is_text}

-- ---- 1, 3

-- by how much a literal is lighter at least: by 2 where it is `0`, which makes a `void` around it a
-- value that is written out, and weighs 1 more on the left of an equality
abbrev pub margin_by : Shape → ℕ
margin_by (shape.NumericLiteral (pos zero)) = 2
margin_by h = 1

abbrev pub folded_to : Seat → Tree → Tree → Option Tree
folded_to s t w = when (leaves_nothing t && (suits s w && nat_le (weight (Expr s) w + margin_by (shape_of w)) (weight (Expr s) t))) w

abbrev pub folded_value : Seat → Tree → Value → Option Tree
folded_value s t v = option_and_then (folded_to s t) (lit v)

-- an effect-free expression whose value v is calculated becomes Lit(v)
abbrev pub folded : Seat → Tree → Option Tree
folded s t = option_and_then (folded_value s t) (calculated t)

-- 1: a unary one
abbrev pub folded_unary : Seat → Tree → Option Tree
folded_unary s t = option_and_then (λ o. folded s t) (unary_operator t)

-- 3: a binary one
abbrev pub folded_binary : Seat → Tree → Option Tree
folded_binary s t = option_and_then (λ o. folded s t) (binary_operator t)

-- ---- 7

abbrev pub is_addition : BinaryOperator → Bool
is_addition Addition = true
is_addition o = false

abbrev pub is_text_kind : Kind → Bool
is_text_kind IsString = true
is_text_kind k = false

-- `e` beside an empty text, where each value of e is a text
abbrev pub stays_text : Seat → Tree → Tree → BinaryOperator → Option Tree
stays_text s e k o = when (is_addition o && (is_text [] (string k) && (is_text_kind (kind e) && suits s e))) e

-- 7: `e + ""` becomes e
abbrev pub before_nothing : Seat → Tree → Option Tree
before_nothing s t = option_and_then (stays_text s (part t 0) (part t 1)) (binary_operator t)

-- 7: `"" + e` becomes e
abbrev pub behind_nothing : Seat → Tree → Option Tree
behind_nothing s t = option_and_then (stays_text s (part t 1) (part t 0)) (binary_operator t)

-- ---- 12, 13, 15

-- the key `exports`, as a name or as a text
abbrev pub is_exports_key : Shape → Bool
is_exports_key (shape.IdentifierName s) = same_text s (codes "exports")
is_exports_key (shape.StringLiteral s) = same_text s (codes "exports")
is_exports_key h = false

-- `module.exports` and `module["exports"]`, by name alone
abbrev pub is_exports : Tree → Bool
is_exports t = (is_static_member t || is_computed_member t) && ((is_identifier (part t 0) && is_spelled (codes "module") (names_of (part t 0))) && is_exports_key (shape_of (part t 1)))

-- behind `&&`, an assignment `=` to it: other programs read it as a list of names
abbrev pub names_exports : LogicalOperator → Tree → Bool
names_exports And t = is_assign (assignment_operator t) && is_exports (part t 0)
names_exports o t = false

-- the operators of row 15, and of rows 12 and 13
abbrev pub is_coalesce : LogicalOperator → Bool
is_coalesce o = not (is_and_or o)

abbrev pub stopped_by : (LogicalOperator → Bool) → Seat → Tree → LogicalOperator → Option Tree
stopped_by f s t o = when (f o && (stops o (part t 0) && (not (names_exports o (part t 1)) && (encloses false (part t 1) && (weighs (part t 1) && suits s (part t 0)))))) (part t 0)

-- 12, and 15 of `??`: `a op b`, where b is never evaluated, becomes a
abbrev pub stopped : (LogicalOperator → Bool) → Seat → Tree → Option Tree
stopped f s t = option_and_then (stopped_by f s t) (logical_operator t)

abbrev pub passed_by : (LogicalOperator → Bool) → Seat → Tree → LogicalOperator → Option Tree
passed_by f s t o = when (f o && (goes_on o (part t 0) && (is_effect_free (part t 0) && (leaves_nothing (part t 0) && (weighs (part t 0) && suits s (part t 1)))))) (part t 1)

-- 13, and 15 of `??`: `a op b`, where b always is, becomes b, if a is effect-free
abbrev pub passed : (LogicalOperator → Bool) → Seat → Tree → Option Tree
passed f s t = option_and_then (passed_by f s t) (logical_operator t)

abbrev pub both_by : (LogicalOperator → Bool) → Tree → LogicalOperator → Option Tree
both_by f t o = when (f o && (goes_on o (part t 0) && not (is_effect_free (part t 0)))) (sequence (part t 0 ▸ part t 1 ▸ none))

-- else `a, b`
abbrev pub both : (LogicalOperator → Bool) → Tree → Option Tree
both f t = option_and_then (both_by f t) (logical_operator t)

-- ---- 49

-- `a ? b : b`
abbrev pub chooses_one : Tree → Bool
chooses_one t = is_conditional t && same_tree (part t 1) (part t 2)

-- 49: `a ? b : b` becomes b, if a is effect-free
abbrev pub one_branch : Seat → Tree → Option Tree
one_branch s t = when (chooses_one t && (is_effect_free (part t 0) && (leaves_nothing (part t 0) && (weighs (part t 0) && suits s (part t 1))))) (part t 1)

-- else `a, b`
abbrev pub both_branches : Tree → Option Tree
both_branches t = when (chooses_one t && not (is_effect_free (part t 0))) (sequence (part t 0 ▸ part t 1 ▸ none))

-- The rewrites 4, 7, 14, 27, 29, 30, 31 and 32: what is known of an operand goes, or is written
-- shorter. Those of operators stand before them.
use Rattle.std.specs.Prelude.{ℕ, suc, zero, ℤ, pos, Bool, true, false, not, ◌&&◌, List, [], ◌++◌, Option, Some, None, if◌then◌else◌}
use Rattle.mini_model.specs.declared.operator.BinaryOperator.{BinaryOperator}
use Rattle.mini_model.specs.declared.operator.BinaryOperator.TheVariants.{Addition, Equality, Inequality, BitwiseAnd, BitwiseXor, BitwiseOr, ShiftLeft, ShiftRight}
use Rattle.mini_model.specs.declared.operator.LogicalOperator.{LogicalOperator}
use Rattle.mini_model.specs.declared.place.Position.{Position}
use Rattle.mini_model.specs.declared.seat.Seat.{Seat}
use Rattle.mini_model.specs.declared.shape.Shape.{Shape}
use Rattle.mini_model.specs.declared.shape.Shape.TheVariants as shape
use Rattle.mini_model.specs.Tree.{Tree, shape_of, logical}
use Rattle.mini_model.specs.Position.{is_and_or, right_operand_seat}
use Rattle.mini_node.specs.Children.{part}
use Rattle.mini_node.specs.Kinds.{logical_operator, binary_operator, unary_operator, is_logical, is_negation, number, string}
use Rattle.mini_laws.specs.Operators.{same_boolean}
use Rattle.mini_terms.specs.declared.kinds.Kind.{Kind}
use Rattle.mini_terms.specs.declared.kinds.Kind.TheVariants.{Boolean as IsBoolean, String as IsString}
use Rattle.mini_terms.specs.Folds.{is_effect_free, goes_on}
use Rattle.mini_terms.specs.Kind.{kind}
use Rattle.mini_terms.specs.Parts.{suits, leaves_nothing, weighs}
use Rattle.mini_rows.specs.Booleans.{digit}
use Rattle.mini_rows.specs.Choices.{loosely}
use Rattle.mini_rows.specs.Operands.{encloses, told_by, tail_text, is_bits, is_int32, is_shifted, keeps_bits, has_room, zero_told, OperandRow, OperandContracts}
use Rattle.mini_rows.specs.Spellings.{binary, text}
use Rattle.mini_fold.specs.FoldOperators.{delete_written, operator_written}

-- ---- 14

-- `a || 0` of `a || 0 || b`: what is in the middle goes
abbrev pub is_redundant : Seat → LogicalOperator → Tree → Tree → Bool
is_redundant s o a b = is_and_or o && (is_logical o a && (goes_on o (part a 1) && (is_effect_free (part a 1) && (leaves_nothing (part a 1) && (weighs (part a 1) && suits (right_operand_seat o s) b)))))

abbrev pub logical_written : Seat → Option LogicalOperator → Tree → Option Tree
logical_written s (Some o) t = if is_redundant s o (part t 0) (part t 1) then Some (logical o (part (part t 0) 0) (part t 1)) else None
logical_written s None t = None

-- ---- 7

abbrev pub is_empty : Option (List ℕ) → Bool
is_empty (Some []) = true
is_empty c = false

abbrev pub is_string_kind : Kind → Bool
is_string_kind IsString = true
is_string_kind k = false

-- the second is an empty text, and the first stays
abbrev pub is_text : Seat → Tree → Tree → Bool
is_text s a k = is_empty (string k) && (is_string_kind (kind a) && suits s a)

abbrev pub text_written : Seat → Tree → Tree → Option Tree
text_written s a b = if is_text s a b then Some a else (if is_text s b a then Some b else None)

-- ---- 4

-- the text at the end of `a + "s"`
abbrev pub sum_text_by : Option BinaryOperator → Tree → Option (List ℕ)
sum_text_by (Some Addition) k = string k
sum_text_by o k = None

abbrev pub sum_text : Tree → Option (List ℕ)
sum_text t = sum_text_by (binary_operator t) (part t 1)

abbrev pub joined_texts : Option (List ℕ) → Option (List ℕ) → Option (List ℕ)
joined_texts (Some s) (Some t) = Some (s ++ t)
joined_texts c d = None

abbrev pub with_text : Tree → Option (List ℕ) → Option Tree
with_text a (Some r) = Some (binary Addition (part a 0) (text r))
with_text a None = None

-- `a + "st"` of `a + "s" + "t"`
abbrev pub joined_written : Tree → Tree → Option Tree
joined_written a k = with_text a (joined_texts (sum_text a) (tail_text k))

abbrev pub or_else : Option Tree → Option Tree → Option Tree
or_else (Some t) u = Some t
or_else None u = u

abbrev pub sum_written : Seat → Tree → Tree → Option Tree
sum_written s a b = or_else (text_written s a b) (joined_written a b)

-- ---- 27

abbrev pub is_zero : Option ℤ → Bool
is_zero (Some (pos zero)) = true
is_zero n = false

-- bits beside 0
abbrev pub tests_bits : Tree → Tree → Bool
tests_bits a b = is_zero (number b) && is_bits a

-- a shift beside 0, of which only the truth is asked
abbrev pub tests_shift : Seat → Bool → Tree → Tree → Bool
tests_shift s equal a b = is_zero (number b) && (not equal && (s.boolean && is_shifted a))

-- a shift beside 0, where the comparison has parentheses
abbrev pub tests_enclosed : Seat → Tree → Tree → Bool
tests_enclosed s a b = is_zero (number b) && (encloses s && is_shifted a)

-- ---- 29 and 30

abbrev pub negated_truth : Option ℤ → Option Bool
negated_truth (Some (pos zero)) = Some true
negated_truth (Some (pos (suc zero))) = Some false
negated_truth n = None

-- the truth of `!0`, and of `!1`
abbrev pub truth_in : Tree → Option Bool
truth_in t = if is_negation t then negated_truth (number (part t 0)) else None

abbrev pub is_boolean_kind : Kind → Bool
is_boolean_kind IsBoolean = true
is_boolean_kind k = false

-- the boolean beside it tells the whole
abbrev pub is_told : Seat → Bool → Tree → Bool
is_told s holds a = is_boolean_kind (kind a) && suits s (told_by holds a)

abbrev pub right_written : Seat → Bool → Bool → Tree → Tree
right_written s equal c a = if is_told s (same_boolean equal c) a then told_by (same_boolean equal c) a else binary (loosely equal) a (digit c)

abbrev pub left_written : Bool → Option Bool → Tree → Option Tree
left_written equal (Some c) b = Some (binary (loosely equal) (digit c) b)
left_written equal None b = None

abbrev pub either_written : Seat → Bool → Option Bool → Tree → Tree → Option Tree
either_written s equal (Some c) a b = Some (right_written s equal c a)
either_written s equal None a b = left_written equal (truth_in a) b

abbrev pub equal_written : Seat → Bool → Tree → Tree → Option Tree
equal_written s equal a b = if tests_bits a b then Some (zero_told equal a) else (if tests_shift s equal a b then Some a else (if tests_enclosed s a b then Some (zero_told equal a) else either_written s equal (truth_in b) a b))

-- ---- 31 and 32

-- the operator gives beside it what `| 0` does
abbrev pub keeps_beside : BinaryOperator → Option ℤ → Bool
keeps_beside o (Some n) = keeps_bits o n
keeps_beside o None = false

-- `a | 0` of `a << 0`
abbrev pub kept_written : Seat → BinaryOperator → Tree → Tree → Option Tree
kept_written s o a k = if keeps_beside o (number k) && has_room o s then Some (binary BitwiseOr a (digit false)) else None

-- the same with the number on either side
abbrev pub bits_written : Seat → BinaryOperator → Tree → Tree → Option Tree
bits_written s o a b = or_else (kept_written s o a b) (kept_written s o b a)

-- `a << 1` of `a << 1 | 0`
abbrev pub whole_written : Tree → Tree → Option Tree
whole_written a k = if is_zero (number k) && is_int32 a then Some a else None

-- and of `0 | a << 1`
abbrev pub wholes_written : Tree → Tree → Option Tree
wholes_written a b = or_else (whole_written a b) (whole_written b a)

-- ---- all

abbrev pub operands_written : Seat → BinaryOperator → Tree → Option Tree
operands_written s Addition t = sum_written s (part t 0) (part t 1)
operands_written s Equality t = equal_written s true (part t 0) (part t 1)
operands_written s Inequality t = equal_written s false (part t 0) (part t 1)
operands_written s BitwiseOr t = wholes_written (part t 0) (part t 1)
operands_written s BitwiseAnd t = bits_written s BitwiseAnd (part t 0) (part t 1)
operands_written s BitwiseXor t = bits_written s BitwiseXor (part t 0) (part t 1)
operands_written s ShiftLeft t = kept_written s ShiftLeft (part t 0) (part t 1)
operands_written s ShiftRight t = kept_written s ShiftRight (part t 0) (part t 1)
operands_written s o t = None

abbrev pub binary_written : Seat → Option BinaryOperator → Tree → Option Tree
binary_written s (Some o) t = operator_written o t (operands_written s o t)
binary_written s None t = None

abbrev pub written_by : Shape → Seat → Tree → Option Tree
written_by (shape.LogicalExpression o) s t = logical_written s (logical_operator t) t
written_by (shape.BinaryExpression o) s t = binary_written s (binary_operator t) t
written_by (shape.UnaryExpression o) s t = delete_written (unary_operator t) (part t 0)
written_by h s t = None

-- what is written for an expression
abbrev pub written : Seat → Tree → Option Tree
written s t = written_by (shape_of t) s t

-- what the rule makes
abbrev pub Gives : Position → Tree → Tree → Type 0
Gives = OperandContracts

-- no row reads it as anything
abbrev pub Rests : Position → Tree → Type 0
Rests p n = (w : Tree) → OperandRow p n w → ⊥

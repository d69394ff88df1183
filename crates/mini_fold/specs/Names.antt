-- Rewrites that stand in larger ones, each by itself: what is written for a node by its rows alone.
use Rattle.std.specs.Prelude.{Bool, true, false, Option, Some, None, if◌then◌else◌}
use Rattle.mini_model.specs.declared.operator.BinaryOperator.{BinaryOperator}
use Rattle.mini_model.specs.declared.operator.BinaryOperator.TheVariants.{Addition, Equality, Inequality, BitwiseAnd, BitwiseXor, BitwiseOr, ShiftLeft, ShiftRight}
use Rattle.mini_model.specs.declared.operator.LogicalOperator.{LogicalOperator}
use Rattle.mini_model.specs.declared.operator.LogicalOperator.TheVariants.{Coalesce}
use Rattle.mini_model.specs.declared.operator.UnaryOperator.{UnaryOperator}
use Rattle.mini_model.specs.declared.seat.Seat.{Seat}
use Rattle.mini_model.specs.Tree.{Tree}
use Rattle.mini_node.specs.Children.{part}
use Rattle.mini_node.specs.Kinds.{binary_operator, logical_operator, unary_operator}
use Rattle.mini_laws.specs.Operators.{same_boolean}
use Rattle.mini_rows.specs.Booleans.{digit}
use Rattle.mini_rows.specs.Choices.{loosely}
use Rattle.mini_rows.specs.Operands.{told_by, zero_told}
use Rattle.mini_rows.specs.Spellings.{binary}
use Rattle.mini_fold.specs.FoldConstants.{literal_written}
use Rattle.mini_fold.specs.FoldKnown.{folded}
use Rattle.mini_fold.specs.FoldOperands.{or_else, sum_written, tests_bits, tests_shift, tests_enclosed, truth_in, is_told, left_written, kept_written, bits_written, wholes_written, logical_written}
use Rattle.mini_fold.specs.FoldOperators.{delete_written, told, boolean_or, without_plus, mask_written}
use Rattle.mini_fold.specs.FoldTemplates.{added_written}
use Rattle.mini_fold.specs.JoinConstants.{joined_written}
use Rattle.mini_fold.specs.MinimizeBinary as equality

-- ---- 16 and 17, `fold_binary_typeof_comparison`

abbrev pub typeof_by : Option BinaryOperator → Tree → Option Tree
typeof_by (Some o) t = boolean_or (told o t) None
typeof_by None t = None

abbrev pub typeof_written : Tree → Option Tree
typeof_written t = typeof_by (binary_operator t) t

-- ---- 56, `substitute_unary_plus`

abbrev pub plus_by : Option BinaryOperator → Tree → Option Tree
plus_by (Some o) t = without_plus o (part t 0) (part t 1) None
plus_by None t = None

abbrev pub plus_written : Tree → Option Tree
plus_written t = plus_by (binary_operator t) t

-- ---- 30, `minimize_loose_boolean`

abbrev pub digits_written : Bool → Option Bool → Tree → Tree → Option Tree
digits_written equal (Some c) a b = Some (binary (loosely equal) a (digit c))
digits_written equal None a b = left_written equal (truth_in a) b

abbrev pub loose_by : BinaryOperator → Tree → Option Tree
loose_by Equality t = digits_written true (truth_in (part t 1)) (part t 0) (part t 1)
loose_by Inequality t = digits_written false (truth_in (part t 1)) (part t 0) (part t 1)
loose_by o t = None

abbrev pub loose_in : Option BinaryOperator → Tree → Option Tree
loose_in (Some o) t = loose_by o t
loose_in None t = None

abbrev pub loose_written : Tree → Option Tree
loose_written t = loose_in (binary_operator t) t

-- ---- 31 and 32, `minimize_bitwise_binary_expr`

abbrev pub bitwise_by : Seat → BinaryOperator → Tree → Option Tree
bitwise_by s BitwiseOr t = wholes_written (part t 0) (part t 1)
bitwise_by s BitwiseAnd t = bits_written s BitwiseAnd (part t 0) (part t 1)
bitwise_by s BitwiseXor t = bits_written s BitwiseXor (part t 0) (part t 1)
bitwise_by s ShiftLeft t = kept_written s ShiftLeft (part t 0) (part t 1)
bitwise_by s ShiftRight t = kept_written s ShiftRight (part t 0) (part t 1)
bitwise_by s o t = None

abbrev pub bitwise_in : Seat → Option BinaryOperator → Tree → Option Tree
bitwise_in s (Some o) t = bitwise_by s o t
bitwise_in s None t = None

abbrev pub bitwise_written : Seat → Tree → Option Tree
bitwise_written s t = bitwise_in s (binary_operator t) t

-- ---- 27, 28 and 29, `minimize_binary`

-- 29: the boolean that is held against this truth, or its negation
abbrev pub boolean_written : Seat → Bool → Option Bool → Tree → Option Tree
boolean_written s equal (Some c) a = if is_told s (same_boolean equal c) a then Some (told_by (same_boolean equal c) a) else None
boolean_written s equal None a = None

abbrev pub equal_written : Seat → Bool → Tree → Tree → Option Tree
equal_written s equal a b = if tests_bits a b then Some (zero_told equal a) else (if tests_shift s equal a b then Some a else (if tests_enclosed s a b then Some (zero_told equal a) else boolean_written s equal (truth_in b) a))

abbrev pub binary_by : Seat → BinaryOperator → Tree → Option Tree
binary_by s Equality t = equal_written s true (part t 0) (part t 1)
binary_by s Inequality t = equal_written s false (part t 0) (part t 1)
binary_by s o t = equality.written t

abbrev pub binary_in : Seat → Option BinaryOperator → Tree → Option Tree
binary_in s (Some o) t = binary_by s o t
binary_in s None t = None

abbrev pub binary_written : Seat → Tree → Option Tree
binary_written s t = binary_in s (binary_operator t) t

-- ---- 1 and 2, `fold_unary_expr`

abbrev pub unary_by : Seat → Option UnaryOperator → Tree → Option Tree
unary_by s (Some o) t = or_else (literal_written s t) (delete_written (unary_operator t) (part t 0))
unary_by s None t = None

abbrev pub unary_written : Seat → Tree → Option Tree
unary_written s t = unary_by s (unary_operator t) t

-- ---- 12, 13 and 14, `try_fold_and_or`, and 15, `try_fold_coalesce`; of both `fold_logical_expr`

abbrev pub logical_written_by : Seat → Tree → Option Tree
logical_written_by s t = or_else (folded s t) (logical_written s (logical_operator t) t)

abbrev pub and_or_by : Seat → LogicalOperator → Tree → Option Tree
and_or_by s Coalesce t = None
and_or_by s o t = logical_written_by s t

abbrev pub and_or_in : Seat → Option LogicalOperator → Tree → Option Tree
and_or_in s (Some o) t = and_or_by s o t
and_or_in s None t = None

abbrev pub and_or_written : Seat → Tree → Option Tree
and_or_written s t = and_or_in s (logical_operator t) t

abbrev pub coalesce_by : Seat → LogicalOperator → Tree → Option Tree
coalesce_by s Coalesce t = folded s t
coalesce_by s o t = None

abbrev pub coalesce_in : Seat → Option LogicalOperator → Tree → Option Tree
coalesce_in s (Some o) t = coalesce_by s o t
coalesce_in s None t = None

abbrev pub coalesce_written : Seat → Tree → Option Tree
coalesce_written s t = coalesce_in s (logical_operator t) t

abbrev pub either_by : Seat → LogicalOperator → Tree → Option Tree
either_by s Coalesce t = folded s t
either_by s o t = logical_written_by s t

abbrev pub either_in : Seat → Option LogicalOperator → Tree → Option Tree
either_in s (Some o) t = either_by s o t
either_in s None t = None

abbrev pub either_written : Seat → Tree → Option Tree
either_written s t = either_in s (logical_operator t) t

-- ---- 3 to 8, `fold_binary_expr`

-- 7, and 4 of texts that are written out
abbrev pub texts_by : Seat → Option BinaryOperator → Tree → Option Tree
texts_by s (Some Addition) t = sum_written s (part t 0) (part t 1)
texts_by s o t = None

abbrev pub texts_written : Seat → Tree → Option Tree
texts_written s t = texts_by s (binary_operator t) t

-- 8 of numbers that are written out
abbrev pub masks_by : Option BinaryOperator → Tree → Option Tree
masks_by (Some o) t = mask_written o (part t 0) (part t 1) None
masks_by None t = None

abbrev pub masks_written : Tree → Option Tree
masks_written t = masks_by (binary_operator t) t

-- 5 and 6
abbrev pub templates_by : Seat → Option BinaryOperator → Tree → Option Tree
templates_by s (Some Addition) t = added_written s (part t 0) (part t 1)
templates_by s o t = None

abbrev pub templates_written : Seat → Tree → Option Tree
templates_written s t = templates_by s (binary_operator t) t

-- 4 and 8 of other constants, and else those
abbrev pub joins_written : Seat → Tree → Option Tree
joins_written s t = or_else (joined_written t) (templates_written s t)

abbrev pub masked_written : Seat → Tree → Option Tree
masked_written s t = or_else (masks_written t) (joins_written s t)

abbrev pub summed_written : Seat → Tree → Option Tree
summed_written s t = or_else (texts_written s t) (masked_written s t)

-- 3, and else those
abbrev pub operator_written : Seat → Tree → Option Tree
operator_written s t = or_else (literal_written s t) (summed_written s t)

abbrev pub operator_by : Seat → Option BinaryOperator → Tree → Option Tree
operator_by s (Some o) t = operator_written s t
operator_by s None t = None

abbrev pub binary_expression_written : Seat → Tree → Option Tree
binary_expression_written s t = operator_by s (binary_operator t) t

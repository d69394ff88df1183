-- The rewrites 2, 8, 16, 17 and 56: what is told by the operands of an operator, or is done without
-- a part of them.
use Rattle.std.specs.Prelude.{ℤ, Bool, true, false, not, ◌&&◌, Option, Some, None, if◌then◌else◌}
use Rattle.mini_model.specs.declared.operator.BinaryOperator.{BinaryOperator}
use Rattle.mini_model.specs.declared.operator.BinaryOperator.TheVariants.{BitwiseAnd, BitwiseXor, BitwiseOr}
use Rattle.mini_model.specs.declared.operator.UnaryOperator.{UnaryOperator}
use Rattle.mini_model.specs.declared.operator.UnaryOperator.TheVariants.{Delete, UnaryPlus}
use Rattle.mini_model.specs.Tree.{Tree}
use Rattle.mini_model.specs.Position.{is_equality}
use Rattle.mini_node.specs.Children.{part}
use Rattle.mini_node.specs.Equal.{same_tree}
use Rattle.mini_node.specs.Kinds.{unary_operator, binary_operator, is_identifier, number}
use Rattle.mini_laws.specs.Value.{Value, Number}
use Rattle.mini_terms.specs.Calculated.{calculated_numbers, operand_value}
use Rattle.mini_terms.specs.Kind.{is_number, kind}
use Rattle.mini_rows.specs.ChainLinks.{is_lone}
pub use Rattle.mini_held.specs.Types.{is_typeof, is_never_type}
use Rattle.mini_rows.specs.Operators.{deleted, says_equal, makes_numbers, is_short}
use Rattle.mini_rows.specs.Spellings.{binary, negated_digit, numeral}

-- ---- 2

abbrev pub delete_written : Option UnaryOperator → Tree → Option Tree
delete_written (Some Delete) a = if is_lone a then Some (deleted a) else None
delete_written o a = None

-- ---- 16 and 17

-- both are `typeof` of one name
abbrev pub are_types_same : Tree → Tree → Bool
are_types_same a b = is_typeof a && (is_identifier (part a 0) && same_tree a b)

-- what an equality tells whose sides are equal, or never are
abbrev pub told_by : BinaryOperator → Bool → Bool → Option Bool
told_by o true never = Some (says_equal o)
told_by o false true = Some (not (says_equal o))
told_by o false false = None

abbrev pub told : BinaryOperator → Tree → Option Bool
told o t = if is_equality o then told_by o (are_types_same (part t 0) (part t 1)) (is_never_type true t) else None

-- ---- 56

abbrev pub is_plus_by : Option UnaryOperator → Bool
is_plus_by (Some UnaryPlus) = true
is_plus_by o = false

abbrev pub is_plus : Tree → Bool
is_plus t = is_plus_by (unary_operator t)

abbrev pub is_number_value : Option Value → Bool
is_number_value (Some (Number n)) = true
is_number_value c = false

-- the plus on the left goes, beside what does nothing but give a number
abbrev pub drops_left : BinaryOperator → Tree → Tree → Bool
drops_left o a b = is_plus a && (makes_numbers o && is_number_value (operand_value b))

-- and the one on the right, where the left side is a number
abbrev pub drops_right : BinaryOperator → Tree → Tree → Bool
drops_right o a b = is_plus b && (makes_numbers o && is_number (kind a))

-- ---- 8

-- an operator of this kind over the same one
abbrev pub holds_bitwise : BinaryOperator → Option BinaryOperator → Bool
holds_bitwise BitwiseAnd (Some BitwiseAnd) = true
holds_bitwise BitwiseXor (Some BitwiseXor) = true
holds_bitwise BitwiseOr (Some BitwiseOr) = true
holds_bitwise o p = false

abbrev pub number_of : Option Value → Option ℤ
number_of (Some (Number n)) = Some n
number_of c = None

abbrev pub shortened : Option ℤ → ℤ → ℤ → Option ℤ
shortened (Some r) c d = if is_short r c d then Some r else None
shortened None c d = None

-- what an operator makes of two numbers, where it is no longer than they are
abbrev pub masked : BinaryOperator → Option ℤ → Option ℤ → Option ℤ
masked o (Some c) (Some d) = shortened (number_of (calculated_numbers o c d)) c d
masked o c d = None

abbrev pub with_mask : BinaryOperator → Tree → Option ℤ → Option Tree → Option Tree
with_mask o a (Some r) u = Some (binary o a (numeral r))
with_mask o a None u = u

-- `a & 2` of `a & 6 & 3`, and of `6 & a & 3`
abbrev pub masks_written : BinaryOperator → Tree → Tree → Option Tree → Option Tree
masks_written o a b u = with_mask o (part a 0) (masked o (number (part a 1)) (number b)) (with_mask o (part a 1) (masked o (number (part a 0)) (number b)) u)

abbrev pub mask_written : BinaryOperator → Tree → Tree → Option Tree → Option Tree
mask_written o a b u = if holds_bitwise o (binary_operator a) then masks_written o a b u else u

-- ---- all

abbrev pub without_plus : BinaryOperator → Tree → Tree → Option Tree → Option Tree
without_plus o a b u = if drops_left o a b then Some (binary o (part a 0) b) else (if drops_right o a b then Some (binary o a (part b 0)) else u)

abbrev pub boolean_or : Option Bool → Option Tree → Option Tree
boolean_or (Some c) u = Some (negated_digit c)
boolean_or None u = u

-- what is written for an operator over both sides, and else this
abbrev pub operator_written : BinaryOperator → Tree → Option Tree → Option Tree
operator_written o t u = boolean_or (told o t) (without_plus o (part t 0) (part t 1) (mask_written o (part t 0) (part t 1) u))

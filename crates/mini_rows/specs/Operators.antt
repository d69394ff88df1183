-- Rows on operators whose value is told by their operands, or that do alike without a part of
-- these, as equations: each is a shape and what is written in its place, with the JavaScript before
-- and after. No order of rewriting is meant.
use Rattle.std.specs.Prelude.{◌≡◌, ◌⊎◌, ℕ, ℤ, Bool, true, false, not, ◌&&◌, ◌||◌, ◌-◌, nat_le, length, List, codes, Option, Some, None, if◌then◌else◌}
use Rattle.std.specs.Fmt.{signed_decimal}
use Rattle.mini_model.specs.declared.name.Name.{Name}
use Rattle.mini_model.specs.declared.operator.BinaryOperator.{BinaryOperator}
use Rattle.mini_model.specs.declared.operator.BinaryOperator.TheVariants as binary_operator
use Rattle.mini_model.specs.declared.operator.UnaryOperator.TheVariants.{Typeof, Delete}
use Rattle.mini_model.specs.declared.seat.Seat.{Seat}
use Rattle.mini_model.specs.Tree.{Tree, unary, identifier}
use Rattle.mini_model.specs.Position.{is_equality}
use Rattle.mini_model.specs.Weight.{same_text}
use Rattle.mini_node.specs.Kinds.{string}
use Rattle.mini_laws.specs.Value.{Number}
use Rattle.mini_terms.specs.Calculated.{calculated_numbers, operand_value}
use Rattle.mini_terms.specs.declared.kinds.Kind.{Kind}
use Rattle.mini_terms.specs.declared.kinds.Kind.TheVariants.{Undefined as IsUndefined, Null as IsNull, Boolean as IsBoolean, Number as IsNumber, BigInt as IsBigInt}
use Rattle.mini_terms.specs.Effects.{ef}
use Rattle.mini_terms.specs.Folds.{is_effect_free}
use Rattle.mini_terms.specs.Kind.{kind}
use Rattle.mini_terms.specs.Parts.{leaves_nothing}
use Rattle.mini_rows.specs.Booleans.{plus}
use Rattle.mini_rows.specs.ChainLinks.{is_lone}
use Rattle.mini_rows.specs.Choices.{pair}
use Rattle.mini_rows.specs.Spellings.{binary, negated_digit, numeral}

-- ---- terms

-- what `delete` of a value gives: `!0`, after what the operand does
abbrev pub deleted : Tree → Tree
deleted a = if is_effect_free a && leaves_nothing a then negated_digit true else pair a (negated_digit true)

-- of an equality, whether it says that its sides are equal
abbrev pub says_equal : BinaryOperator → Bool
says_equal binary_operator.Equality = true
says_equal binary_operator.StrictEquality = true
says_equal o = false

-- the texts that `typeof` gives (ECMA-262, "The typeof Operator"), and one that engines of old gave
-- besides
abbrev pub is_type_text : List ℕ → Bool
is_type_text s =
    same_text s (codes "undefined") || (same_text s (codes "object") || (same_text s (codes "boolean") || (same_text s (codes "number") || (same_text s (codes "string") || (same_text s (codes "symbol") || (same_text s (codes "bigint") || (same_text s (codes "function") || same_text s (codes "unknown"))))))))

-- its values are primitive, and no texts
abbrev pub is_other_kind : Kind → Bool
is_other_kind IsUndefined = true
is_other_kind IsNull = true
is_other_kind IsBoolean = true
is_other_kind IsNumber = true
is_other_kind IsBigInt = true
is_other_kind k = false

-- no text that `typeof` gives equals it: by the text that it writes out, if it does
abbrev pub is_no_type_by : Option (List ℕ) → Kind → Bool
is_no_type_by (Some s) k = not (is_type_text s)
is_no_type_by None k = is_other_kind k

abbrev pub is_no_type : Tree → Bool
is_no_type t = is_no_type_by (string t) (kind t)

-- it makes its operands numbers, the left one first, whatever they are (ECMA-262,
-- "ApplyStringOrNumericBinaryOperator")
abbrev pub makes_numbers : BinaryOperator → Bool
makes_numbers binary_operator.Subtraction = true
makes_numbers binary_operator.Multiplication = true
makes_numbers binary_operator.Division = true
makes_numbers binary_operator.Remainder = true
makes_numbers binary_operator.Exponential = true
makes_numbers binary_operator.BitwiseAnd = true
makes_numbers binary_operator.BitwiseXor = true
makes_numbers binary_operator.BitwiseOr = true
makes_numbers binary_operator.ShiftLeft = true
makes_numbers binary_operator.ShiftRight = true
makes_numbers binary_operator.ShiftRightZeroFill = true
makes_numbers o = false

-- `&`, `^` and `|`
abbrev pub is_bitwise : BinaryOperator → Bool
is_bitwise binary_operator.BitwiseAnd = true
is_bitwise binary_operator.BitwiseXor = true
is_bitwise binary_operator.BitwiseOr = true
is_bitwise o = false

-- an operator of an operand and a number, which stands on the right, or on the left
abbrev pub with_number : BinaryOperator → Bool → Tree → ℤ → Tree
with_number o true a c = binary o a (numeral c)
with_number o false a c = binary o (numeral c) a

-- the first is no longer in decimals than the other two together
abbrev pub is_short : ℤ → ℤ → ℤ → Bool
is_short r c d = nat_le (length (signed_decimal r) - length (signed_decimal c)) (length (signed_decimal d))

-- ---- rows

-- 2: `delete a()` becomes `a(), !0`, `delete function () {}` `function () {}, !0`, and
-- `delete (a + 1)` `!0` where that has no effect: what is no reference is not deleted
pub record Row2 (n w : Tree) : Type 0 where
  pub operand : Tree
  pub value : is_lone operand ≡ true
  pub shape : n ≡ unary Delete operand
  pub written : w ≡ deleted operand

-- 16: `typeof x == typeof x` becomes `!0`, and `typeof x != typeof x` `!1`
pub record Row16 (n w : Tree) : Type 0 where
  pub operator : BinaryOperator
  pub name : Name
  pub equality : is_equality operator ≡ true
  pub shape : n ≡ binary operator (unary Typeof (identifier name)) (unary Typeof (identifier name))
  pub written : w ≡ negated_digit (says_equal operator)

-- 17: `typeof a == "text"` becomes `!1`, and `typeof a !== null` `!0`: no value of `typeof` equals
-- the right side. `this` has an effect where it is asked of the world
pub record TypeRow (asked : Bool) (n w : Tree) : Type 0 where
  pub operator : BinaryOperator
  pub operand : Tree
  pub right : Tree
  pub equality : is_equality operator ≡ true
  pub known : is_no_type right ≡ true
  pub effect_free : ef asked (binary operator (unary Typeof operand) right) ≡ true
  pub dropped : leaves_nothing (binary operator (unary Typeof operand) right) ≡ true
  pub shape : n ≡ binary operator (unary Typeof operand) right
  pub written : w ≡ negated_digit (not (says_equal operator))

-- wherever it stands
abbrev pub Row17 : Tree → Tree → Type 0
Row17 = TypeRow true

-- 56, on the left: `+a * 2` becomes `a * 2`, and `+a * (1 << 30)` `a * (1 << 30)`: the evaluation
-- of the right side does nothing but give a number
pub record Row56Left (n w : Tree) : Type 0 where
  pub operator : BinaryOperator
  pub operand : Tree
  pub right : Tree
  pub number : ℤ
  pub numeric : makes_numbers operator ≡ true
  pub known : operand_value right ≡ Some (Number number)
  pub shape : n ≡ binary operator (plus operand) right
  pub written : w ≡ binary operator operand right

-- 56, on the right: `2 * +a` becomes `2 * a`, where each value of the left side is a number
pub record Row56Right (n w : Tree) : Type 0 where
  pub operator : BinaryOperator
  pub left : Tree
  pub operand : Tree
  pub numeric : makes_numbers operator ≡ true
  pub known : kind left ≡ IsNumber
  pub shape : n ≡ binary operator left (plus operand)
  pub written : w ≡ binary operator left operand

-- 8: `a & 6 & 3` becomes `a & 2`, and `6 | a | 3` becomes `a | 7`
pub record Row8 (n w : Tree) : Type 0 where
  pub operator : BinaryOperator
  pub on_right : Bool
  pub operand : Tree
  pub first : ℤ
  pub second : ℤ
  pub joined : ℤ
  pub bitwise : is_bitwise operator ≡ true
  pub known : calculated_numbers operator first second ≡ Some (Number joined)
  pub short : is_short joined first second ≡ true
  pub shape : n ≡ binary operator (with_number operator on_right operand first) (numeral second)
  pub written : w ≡ binary operator operand (numeral joined)

-- a row on operators reads n as w in this seat
pub data OperatorRow (s : Seat) (n w : Tree) : Type 0 where
  Deleted : Row2 n w → OperatorRow s n w
  SameTypes : Row16 n w → OperatorRow s n w
  NeverType : Row17 n w → OperatorRow s n w
  LeftPlus : Row56Left n w → OperatorRow s n w
  RightPlus : Row56Right n w → OperatorRow s n w
  JoinedMasks : Row8 n w → OperatorRow s n w

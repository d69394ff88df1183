-- Rows on operands whose value is known, as equations: each is a shape and what is written in its
-- place, with the JavaScript before and after. No order of rewriting is meant.
use Rattle.std.specs.Prelude.{◌≡◌, ℕ, ℤ, pos, ◌<◌, nat_le, nat_lt, ◌⊎◌, ◌&&◌, ◌||◌, Bool, true, false, List, [], ◌∷◌, ◌++◌, Option, Some, None, codes, is_none}
use Rattle.std.specs.Fmt.{signed_decimal}
use Rattle.mini_model.specs.declared.name.Name.{Name}
use Rattle.mini_model.specs.declared.operator.BinaryOperator.{BinaryOperator}
use Rattle.mini_model.specs.declared.operator.BinaryOperator.TheVariants.{Addition, BitwiseAnd, BitwiseXor, BitwiseOr, ShiftLeft, ShiftRight, ShiftRightZeroFill}
use Rattle.mini_model.specs.declared.operator.LogicalOperator.{LogicalOperator}
use Rattle.mini_model.specs.declared.operator.UnaryOperator.{UnaryOperator}
use Rattle.mini_model.specs.declared.operator.UnaryOperator.TheVariants.{BitwiseNot}
use Rattle.mini_model.specs.declared.place.Position.{Position}
use Rattle.mini_model.specs.declared.place.Position.TheVariants.{Expr}
use Rattle.mini_model.specs.declared.seat.Seat.{Seat}
use Rattle.mini_model.specs.Tree.{Tree, logical, negation}
use Rattle.mini_model.specs.Position.{is_and_or, right_operand_seat}
use Rattle.mini_model.specs.Weight.{same_text, weight}
use Rattle.mini_node.specs.Children.{names_of}
use Rattle.mini_node.specs.Kinds.{unary_operator, binary_operator, number, string, is_null, is_identifier}
use Rattle.mini_laws.specs.Operators.{same_boolean, same_number}
use Rattle.mini_terms.specs.declared.kinds.Kind.TheVariants.{Boolean as IsBoolean, String as IsString}
use Rattle.mini_terms.specs.Folds.{is_effect_free, goes_on}
use Rattle.mini_terms.specs.Kind.{is_number, kind}
use Rattle.mini_terms.specs.Parts.{suits, leaves_nothing, weighs}
use Rattle.mini_rows.specs.Booleans.{digit}
use Rattle.mini_rows.specs.Choices.{loosely}
use Rattle.mini_rows.specs.Operators.{is_bitwise, OperatorRow}
use Rattle.mini_rows.specs.Spellings.{binary, negated_digit, numeral, text}

-- ---- terms

-- a binary expression, of which this operand stands on the right, or on the left
abbrev pub beside : BinaryOperator → Bool → Tree → Tree → Tree
beside o true a k = binary o a k
beside o false a k = binary o k a

-- the boolean itself, or its negation
abbrev pub told_by : Bool → Tree → Tree
told_by true b = b
told_by false b = negation b

-- the name `undefined`, which no scope declares
abbrev pub is_undefined_name : List Name → Bool
is_undefined_name (x ∷ []) = is_none x.symbol && same_text x.spelling (codes "undefined")
is_undefined_name xs = false

abbrev pub is_undefined : Tree → Bool
is_undefined t = is_identifier t && is_undefined_name (names_of t)

-- `null` and `undefined` weigh as much as their texts
abbrev pub word_by : Bool → Bool → Option (List ℕ)
word_by true b = Some (codes "null")
word_by false true = Some (codes "undefined")
word_by false false = None

abbrev pub word : Tree → Option (List ℕ)
word k = word_by (is_null k) (is_undefined k)

-- the text that `+` makes of a literal, or of such a word, beside a text
abbrev pub tail_by : Option (List ℕ) → Option ℤ → Option (List ℕ) → Option (List ℕ)
tail_by (Some t) n c = Some t
tail_by None (Some n) c = Some (signed_decimal n)
tail_by None None c = c

abbrev pub tail_text : Tree → Option (List ℕ)
tail_text k = tail_by (string k) (number k) (word k)

-- Int32, but for shifts: `~`, and `&`, `^` and `|` where one side is known to be a number
abbrev pub makes_bits : Option UnaryOperator → Option BinaryOperator → Bool
makes_bits (Some BitwiseNot) o = true
makes_bits None (Some BitwiseAnd) = true
makes_bits None (Some BitwiseXor) = true
makes_bits None (Some BitwiseOr) = true
makes_bits u o = false

abbrev pub is_bits : Tree → Bool
is_bits t = makes_bits (unary_operator t) (binary_operator t) && is_number (kind t)

-- Int32: shifts too, but `>>>`
abbrev pub makes_int32 : Option UnaryOperator → Option BinaryOperator → Bool
makes_int32 None (Some ShiftLeft) = true
makes_int32 None (Some ShiftRight) = true
makes_int32 u o = makes_bits u o

abbrev pub is_int32 : Tree → Bool
is_int32 t = makes_int32 (unary_operator t) (binary_operator t) && is_number (kind t)

-- a shift of numbers, with a sign or without
abbrev pub makes_shift : Option BinaryOperator → Bool
makes_shift (Some ShiftLeft) = true
makes_shift (Some ShiftRight) = true
makes_shift (Some ShiftRightZeroFill) = true
makes_shift o = false

abbrev pub is_shifted : Tree → Bool
is_shifted t = makes_shift (binary_operator t) && is_number (kind t)

-- beside this number the operator gives what `| 0` does
abbrev pub keeps_bits : BinaryOperator → ℤ → Bool
keeps_bits ShiftLeft n = same_number n (pos 0)
keeps_bits ShiftRight n = same_number n (pos 0)
keeps_bits BitwiseXor n = same_number n (pos 0)
keeps_bits BitwiseAnd n = same_number n (pos 4_294_967_295)
keeps_bits o n = false

-- `|` has no parentheses in the seat where this operator has none, or they weigh less than what
-- goes
abbrev pub has_room : BinaryOperator → Seat → Bool
has_room BitwiseAnd s = true
has_room BitwiseXor s = nat_le s.level 5 || nat_lt 6 s.level
has_room o s = nat_le s.level 5 || nat_lt 10 s.level

-- `!a`, or `!!a`
abbrev pub zero_told : Bool → Tree → Tree
zero_told true a = negation a
zero_told false a = negation (negation a)

-- ---- rows

-- 14: `a || 0 || b` becomes `a || b`, and `a && 1 && b` becomes `a && b`: the operand in the middle
-- is effect-free, and known to let the last one be evaluated
pub record Row14 (s : Seat) (n w : Tree) : Type 0 where
  pub operator : LogicalOperator
  pub left : Tree
  pub middle : Tree
  pub right : Tree
  pub tells : is_and_or operator ≡ true
  pub known : goes_on operator middle ≡ true
  pub effect_free : is_effect_free middle ≡ true
  pub dropped : leaves_nothing middle ≡ true
  pub heavy : weighs middle ≡ true
  pub stays : suits (right_operand_seat operator s) right ≡ true
  pub shape : n ≡ logical operator (logical operator left middle) right
  pub written : w ≡ logical operator left right

-- 7: `typeof a + ""` and `"" + typeof a` become `typeof a`: each value of what stays is a text
pub record Row7 (s : Seat) (n w : Tree) : Type 0 where
  pub on_right : Bool
  pub operand : Tree
  pub known : kind operand ≡ IsString
  pub stays : suits s operand ≡ true
  pub shape : n ≡ beside Addition on_right operand (text [])
  pub written : w ≡ operand

-- 29: each value of b is a boolean: `b == !0` and `b != !1` become `b`, `b == !1` and `b != !0`
-- become `!b`
pub record Row29 (s : Seat) (n w : Tree) : Type 0 where
  pub equal : Bool
  pub truth : Bool
  pub operand : Tree
  pub known : kind operand ≡ IsBoolean
  pub stays : suits s (told_by (same_boolean equal truth) operand) ≡ true
  pub shape : n ≡ binary (loosely equal) operand (negated_digit truth)
  pub written : w ≡ told_by (same_boolean equal truth) operand

-- 30: `a == !0` becomes `a == 1`, and `!1 != a` becomes `0 != a`
pub record Row30 (n w : Tree) : Type 0 where
  pub equal : Bool
  pub truth : Bool
  pub on_right : Bool
  pub operand : Tree
  pub shape : n ≡ beside (loosely equal) on_right operand (negated_digit truth)
  pub written : w ≡ beside (loosely equal) on_right operand (digit truth)

-- 4: `a + "s" + "t"` becomes `a + "st"`, `a + "s" + 1` becomes `a + "s1"`, and `a + "s" + null`
-- becomes `a + "snull"`; so does `a + "s" + undefined`
pub record Row4 (n w : Tree) : Type 0 where
  pub left : Tree
  pub before : List ℕ
  pub tail : Tree
  pub after : List ℕ
  pub known : tail_text tail ≡ Some after
  pub shape : n ≡ binary Addition (binary Addition left (text before)) tail
  pub written : w ≡ binary Addition left (text (before ++ after))

-- 27: `(a & 1) == 0` becomes `!(a & 1)`, and `(a & 1) != 0` becomes `!!(a & 1)`
pub record Row27 (n w : Tree) : Type 0 where
  pub equal : Bool
  pub operand : Tree
  pub known : is_bits operand ≡ true
  pub shape : n ≡ binary (loosely equal) operand (digit false)
  pub written : w ≡ zero_told equal operand

-- 31: `a << 0`, `a >> 0`, `a ^ 0` and `a & 4294967295` become `a | 0`, and so do `0 ^ a` and
-- `4294967295 & a`
pub record Row31 (s : Seat) (n w : Tree) : Type 0 where
  pub operator : BinaryOperator
  pub on_right : Bool
  pub operand : Tree
  pub number : ℤ
  pub known : keeps_bits operator number ≡ true
  pub sided : on_right || is_bitwise operator ≡ true
  pub seated : has_room operator s ≡ true
  pub shape : n ≡ beside operator on_right operand (numeral number)
  pub written : w ≡ binary BitwiseOr operand (digit false)

-- 32: `a << 1 | 0` and `0 | a << 1` become `a << 1`, where that is a number of 32 bits
pub record Row32 (n w : Tree) : Type 0 where
  pub on_right : Bool
  pub operand : Tree
  pub known : is_int32 operand ≡ true
  pub shape : n ≡ beside BitwiseOr on_right operand (digit false)
  pub written : w ≡ operand

-- 27, of a shift of which only the truth is asked: `(a << 1) != 0` becomes `a << 1`
pub record Row27Asked (s : Seat) (n w : Tree) : Type 0 where
  pub operand : Tree
  pub known : is_shifted operand ≡ true
  pub asked : s.boolean ≡ true
  pub shape : n ≡ binary (loosely false) operand (digit false)
  pub written : w ≡ operand

-- a `!` has no parentheses in the seat, where an equality has them
abbrev pub encloses : Seat → Bool
encloses s = nat_lt 8 s.level && nat_le s.level 14

-- 27, of a shift whose comparison has parentheses: `a + (b << 1 == 0)` becomes `a + !(b << 1)`
pub record Row27Enclosed (s : Seat) (n w : Tree) : Type 0 where
  pub equal : Bool
  pub operand : Tree
  pub known : is_shifted operand ≡ true
  pub seated : encloses s ≡ true
  pub shape : n ≡ binary (loosely equal) operand (digit false)
  pub written : w ≡ zero_told equal operand

-- a row on operands, or on operators, reads n as w in this seat
pub data Operand (s : Seat) (n w : Tree) : Type 0 where
  MiddleOperand : Row14 s n w → Operand s n w
  EmptyText : Row7 s n w → Operand s n w
  BooleanBesideTruth : Row29 s n w → Operand s n w
  TruthBesideValue : Row30 n w → Operand s n w
  JoinedTexts : Row4 n w → Operand s n w
  BitsBesideZero : Row27 n w → Operand s n w
  BitsWithZero : Row31 s n w → Operand s n w
  WholeOrZero : Row32 n w → Operand s n w
  ByOperator : OperatorRow s n w → Operand s n w
  ShiftAsked : Row27Asked s n w → Operand s n w
  ShiftEnclosed : Row27Enclosed s n w → Operand s n w

-- at this place
abbrev pub OperandRow : Position → Tree → Tree → Type 0
OperandRow (Expr s) n w = Operand s n w
OperandRow _ n w = ⊥

-- what it writes, where it weighs less
pub record OperandContracts (p : Position) (n w : Tree) : Type 0 where
  pub row : OperandRow p n w
  pub lighter : weight p w < weight p n

-- which is everywhere
abbrev pub OperandsLighter : Type 0
OperandsLighter = (p : Position) (n w : Tree) → OperandRow p n w → weight p w < weight p n

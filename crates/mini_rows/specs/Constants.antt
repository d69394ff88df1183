-- Rows on expressions whose value is calculated from their text, as equations, with the JavaScript
-- before and after. No order of rewriting is meant.
use Rattle.std.specs.Prelude.{◌≡◌, ℕ, zero, ◌+◌, ◌<◌, ◌≤◌, ◌⊎◌, ◌&&◌, Bool, true, false, List, length, codes, Some, pos}
use Rattle.mini_model.specs.declared.operator.BinaryOperator.{BinaryOperator}
use Rattle.mini_model.specs.declared.operator.BinaryOperator.TheVariants as binary_operator
use Rattle.mini_model.specs.declared.place.Position.{Position}
use Rattle.mini_model.specs.declared.place.Position.TheVariants.{Expr}
use Rattle.mini_model.specs.declared.seat.Seat.{Seat}
use Rattle.mini_model.specs.declared.shape.Shape.{Shape}
use Rattle.mini_model.specs.declared.shape.Shape.TheVariants as shape
use Rattle.mini_model.specs.Numerals.{max_safe_integer}
use Rattle.mini_model.specs.Tree.{Tree, shape_of}
use Rattle.mini_model.specs.Weight.{weight}
use Rattle.mini_laws.specs.Value.{Value, Number, String}
use Rattle.mini_kept.specs.Placed.{is_chain_seat}
use Rattle.mini_terms.specs.Calculated.{operand_value, free_value, calculated}
use Rattle.mini_terms.specs.Const.{binary_value}
use Rattle.mini_terms.specs.Folds.{is_effect_free}
use Rattle.mini_terms.specs.Parts.{takes_numbers, suits, leaves_nothing}
use Rattle.mini_terms.specs.Plain.{lit}
use Rattle.mini_terms.specs.Reading.{is_unguarded}
use Rattle.mini_rows.specs.Operands.{beside}
use Rattle.mini_rows.specs.Spellings.{binary, static_member, key, numeral}

-- how much less it is to weigh: `void 0` is a value that is written out, as `void +0` is none, and
-- weighs 1 more on the left of an equality
abbrev pub gain_by : Shape → ℕ
gain_by (shape.NumericLiteral (pos zero)) = 2
gain_by h = 1

abbrev pub least_gain : Tree → ℕ
least_gain w = gain_by (shape_of w)

-- 1 and 3: a unary or binary expression over constants becomes the literal of its value. `60 * 60`
-- becomes `3600`, `"a" + 1` becomes `"a1"`, `(1 << 20) - 1` becomes `1048575`, and `!"a"` becomes
-- `!1`
pub record RowConstant (s : Seat) (n w : Tree) : Type 0 where
  pub value : Value
  pub known : calculated n ≡ Some value
  pub literal : lit value ≡ Some w
  pub dropped : leaves_nothing n ≡ true
  pub stays : suits s w ≡ true
  pub gains : weight (Expr s) w + least_gain w ≤ weight (Expr s) n

-- a text behind which something is added, or a number beside another, of an operator of bits, which
-- doesn't ask on which side they stand
abbrev pub may_join : BinaryOperator → Bool → Value → Value → Bool
may_join binary_operator.Addition true (String before) v = true
may_join binary_operator.BitwiseAnd b (Number m) (Number n) = true
may_join binary_operator.BitwiseXor b (Number m) (Number n) = true
may_join binary_operator.BitwiseOr b (Number m) (Number n) = true
may_join o b u v = false

-- 4 and 8: `a + "s" + (1 << 14)` becomes `a + "s16384"`, `a & (1 << 14) & -1` becomes `a & 16384`,
-- and so does `(1 << 14) & a & -1`: two operands that do nothing but give their values are one
pub record RowJoined (s : Seat) (n w : Tree) : Type 0 where
  pub operator : BinaryOperator
  pub on_right : Bool
  pub operand : Tree
  pub first : Tree
  pub second : Tree
  pub literal : Tree
  pub before : Value
  pub after : Value
  pub value : Value
  pub known : operand_value first ≡ Some before
  pub told : operand_value second ≡ Some after
  pub joins : may_join operator on_right before after ≡ true
  pub joined : binary_value operator before after ≡ Some value
  pub written_out : lit value ≡ Some literal
  pub dropped : leaves_nothing first && leaves_nothing second ≡ true
  pub shape : n ≡ binary operator (beside operator on_right operand first) second
  pub written : w ≡ binary operator operand literal
  pub gains : weight (Expr s) w < weight (Expr s) n

-- 9, of a text that isn't written out, as its literal would be no lighter: `` `${!1}`.length ``
-- becomes `5`, and `(!0 + "").length` `4`
pub record RowLength (s : Seat) (n w : Tree) : Type 0 where
  pub text : Tree
  pub units : List ℕ
  pub known : free_value text ≡ Some (String units)
  pub effect_free : is_effect_free text ≡ true
  pub dropped : leaves_nothing n ≡ true
  pub unguarded : is_unguarded s.guard ≡ true
  pub unsigned : takes_numbers s ≡ true
  pub unchained : is_chain_seat s ≡ false
  pub small : length units ≤ max_safe_integer
  pub shape : n ≡ static_member false text (key (codes "length"))
  pub written : w ≡ numeral (pos (length units))
  pub gains : weight (Expr s) w + least_gain w ≤ weight (Expr s) n

-- a row reads n as w at this place
abbrev pub ConstantRow : Position → Tree → Tree → Type 0
ConstantRow (Expr s) n w = RowConstant s n w ⊎ (RowJoined s n w ⊎ RowLength s n w)
ConstantRow _ n w = ⊥

-- what it writes, where it weighs less
pub record ConstantContracts (p : Position) (n w : Tree) : Type 0 where
  pub row : ConstantRow p n w
  pub lighter : weight p w < weight p n

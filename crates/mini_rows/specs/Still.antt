-- Rows of what has no effect where a body has its `this`, and something else stands in its place:
-- 21 with a `0`, 1 of `void`, 17, 44 and 45. V says what is known of the body in which the
-- expression stands.
use Rattle.std.specs.Prelude.{◌≡◌, ◌⊎◌, Bool, true, false, nat_lt}
use Rattle.mini_model.specs.declared.operator.UnaryOperator.TheVariants.{Void}
use Rattle.mini_model.specs.declared.place.Position.TheVariants.{Expr}
use Rattle.mini_model.specs.declared.seat.Seat.{Seat}
use Rattle.mini_model.specs.Tree.{Tree, unary}
use Rattle.mini_model.specs.Position.{passed_part_seat, unary_operand_seat}
use Rattle.mini_model.specs.Weight.{weight}
use Rattle.mini_terms.specs.Effects.{ef}
use Rattle.mini_terms.specs.Parts.{leaves_nothing}
use Rattle.mini_kept.specs.Without.{Assured}
use Rattle.mini_rows.specs.Choices.{CallRow, ZeroRow, ChosenRow, ChosenMemberRow, ChosenIndexedRow}
use Rattle.mini_rows.specs.Operators.{TypeRow}
use Rattle.mini_rows.specs.Spellings.{void_zero}

-- it weighs more than a `0`, also where a value that is written out weighs 1 more, as on the left
-- of an equality
abbrev pub outweighs_zero : Seat → Tree → Bool
outweighs_zero s t = nat_lt 3 (weight (Expr s) t)

-- 21: `(this, a.b)()` becomes `(0, a.b)()`, as `(null, a.b)()` does
pub record Row21ZeroThis (V : Assured) (n w : Tree) : Type 0 where
  pub kept : V.has_this ≡ true
  pub row : ZeroRow false n w
  pub heavy : outweighs_zero passed_part_seat row.idle ≡ true

-- 1: `void this` becomes `void 0`: what `void` is over is evaluated, and its value is undefined
-- (ECMA-262, "The void Operator")
pub record Row1This (V : Assured) (n w : Tree) : Type 0 where
  pub operand : Tree
  pub kept : V.has_this ≡ true
  pub effect_free : ef false operand ≡ true
  pub dropped : leaves_nothing operand ≡ true
  pub heavy : outweighs_zero (unary_operand_seat Void) operand ≡ true
  pub shape : n ≡ unary Void operand
  pub written : w ≡ void_zero

-- 44: `a ? this(b) : this(c)` becomes `this(a ? b : c)`, and `this ? f(b) : f(c)`
-- `f(this ? b : c)`: `this` is the same before the test and after it
pub record Row44This (V : Assured) (n w : Tree) : Type 0 where
  pub kept : V.has_this ≡ true
  pub row : CallRow false n w

-- 17: `typeof this == "text"` becomes `!1`
pub record Row17This (V : Assured) (n w : Tree) : Type 0 where
  pub kept : V.has_this ≡ true
  pub row : TypeRow false n w

-- 45: `this ? x += 1 : x += 2` becomes `x += this ? 1 : 2`, and so do `this ? x = 1 : x = 2`,
-- whoever declares x, and, where a scope does, `this ? x.k = 1 : x.k = 2` and
-- `this ? x[k] = 1 : x[k] = 2`: what is assigned to is the same before the test and after it
pub record Row45This (V : Assured) (s : Seat) (n w : Tree) : Type 0 where
  pub kept : V.has_this ≡ true
  pub row : ChosenRow false s n w ⊎ (ChosenMemberRow false s n w ⊎ ChosenIndexedRow false s n w)

-- a row reads n as w in this seat
abbrev pub StillRow : Assured → Seat → Tree → Tree → Type 0
StillRow V s n w = Row21ZeroThis V n w ⊎ (Row1This V n w ⊎ (Row44This V n w ⊎ (Row17This V n w ⊎ Row45This V s n w)))

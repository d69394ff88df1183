-- Rows of expressions of which only the truth is asked, and of conditionals one of whose branches
-- is a boolean, as equations: each is a shape and what is written in its place, with the JavaScript
-- before and after. No order of rewriting is meant.
use Rattle.std.specs.Prelude.{◌≡◌, ◌<◌, ◌⊎◌, Bool, true, false, not, ◌&&◌, ◌||◌, pos, Some, if◌then◌else◌}
use Rattle.mini_model.specs.declared.operator.LogicalOperator.{LogicalOperator}
use Rattle.mini_model.specs.declared.operator.LogicalOperator.TheVariants.{Or, And}
use Rattle.mini_model.specs.declared.operator.UnaryOperator.TheVariants.{UnaryPlus}
use Rattle.mini_model.specs.declared.place.Position.{Position}
use Rattle.mini_model.specs.declared.place.Position.TheVariants.{Expr}
use Rattle.mini_model.specs.declared.seat.Seat.{Seat}
use Rattle.mini_model.specs.Tree.{Tree, logical, conditional, negation, unary}
use Rattle.mini_model.specs.Position.{is_and_or, left_operand_seat, unary_operand_seat}
use Rattle.mini_model.specs.Terms.{not_of}
use Rattle.mini_model.specs.Weight.{weight}
use Rattle.mini_terms.specs.Evident.{evident_truth}
use Rattle.mini_terms.specs.Folds.{is_effect_free, goes_on}
use Rattle.mini_terms.specs.declared.kinds.Kind.{Kind}
use Rattle.mini_terms.specs.declared.kinds.Kind.TheVariants.{Boolean as IsBoolean}
use Rattle.mini_terms.specs.Kind.{kind}
use Rattle.mini_terms.specs.Parts.{leaves_nothing, weighs}
use Rattle.mini_terms.specs.Reading.{stands, is_plain_part}
use Rattle.mini_rows.specs.Spellings.{numeral, negated_digit}

-- ---- terms

-- `1`, or `0`
abbrev pub digit : Bool → Tree
digit true = numeral (pos 1)
digit false = numeral (pos 0)

-- its value is this boolean: `true`, `!1`, `!(0, 0)`
abbrev pub is_boolean_kind : Kind → Bool
is_boolean_kind IsBoolean = true
is_boolean_kind _ = false

-- a conditional, of whose branches this one is known: the consequent, or the alternate
abbrev pub chosen : Bool → Tree → Tree → Tree → Tree
chosen true a known b = conditional a known b
chosen false a known b = conditional a b known

-- the operator that gives a truth at once where its left side tells it
abbrev pub giving : Bool → LogicalOperator
giving true = Or
giving false = And

-- a consequent is taken where the test is true, an alternate where it is false: so the test is
-- negated before it gives the other truth
abbrev pub is_turned : Bool → Bool → Bool
is_turned true truth = not truth
is_turned false truth = truth

-- the test, or its negation where it is turned, in its seat
abbrev pub tested : Seat → Bool → Tree → Tree
tested s true a = not_of s a
tested s false a = a

-- `a || b` of `a ? true : b`, `!a && b` of `a ? false : b`, `!a || b` of `a ? b : true`, and
-- `a && b` of `a ? b : false`
abbrev pub joined : Seat → Bool → Bool → Tree → Tree → Tree
joined s is_consequent truth a b = logical (giving truth) (tested (left_operand_seat (giving truth) s) (is_turned is_consequent truth) a) b

-- ---- where only the truth is asked

-- 24: `!0` becomes `1`, and `!1` becomes `0`. (`!!a` becomes `a` there by row 23)
pub record Row24 (s : Seat) (n w : Tree) : Type 0 where
  pub truth : Bool
  pub asked : s.boolean ≡ true
  pub shape : n ≡ negated_digit truth
  pub written : w ≡ digit truth

-- 25: `a && 1` becomes `a`, and `a || 0` does: the right side is effect-free, and its truth would
-- be that of `a`
pub record Row25 (s : Seat) (n w : Tree) : Type 0 where
  pub operator : LogicalOperator
  pub left : Tree
  pub right : Tree
  pub asked : s.boolean ≡ true
  pub tells : is_and_or operator ≡ true
  pub known : goes_on operator right ≡ true
  pub effect_free : is_effect_free right ≡ true
  pub dropped : leaves_nothing right ≡ true
  pub heavy : weighs right ≡ true
  pub plain : is_plain_part left ≡ true
  pub shape : n ≡ logical operator left right
  pub written : w ≡ left

-- a conditional of whose branches one is effect-free and its truth is known
pub record KnownBranch (s : Seat) (n w : Tree) : Type 0 where
  pub is_consequent : Bool
  pub truth : Bool
  pub test : Tree
  pub branch : Tree
  pub other : Tree
  pub known : evident_truth branch ≡ Some truth
  pub effect_free : is_effect_free branch ≡ true
  pub dropped : leaves_nothing branch ≡ true
  pub shape : n ≡ chosen is_consequent test branch other
  pub written : w ≡ joined s is_consequent truth test other

-- 26: `a ? 1 : b` becomes `a || b`, `a ? 0 : b` `!a && b`, `a ? b : 1` `!a || b`, and `a ? b : 0`
-- `a && b`
pub record Row26 (s : Seat) (n w : Tree) : Type 0 where
  pub form : KnownBranch s n w
  pub asked : s.boolean ≡ true

-- ---- where the value is asked

-- 47: `a ? false : b` becomes `!a && b`, and `a ? b : true` `!a || b`; where each value of a is a
-- boolean, `a ? true : b` becomes `a || b`, and `a ? b : false` `a && b`
pub record Row47 (s : Seat) (n w : Tree) : Type 0 where
  pub form : KnownBranch s n w
  pub boolean : is_boolean_kind (kind form.branch) ≡ true
  pub told : is_turned form.is_consequent form.truth || is_boolean_kind (kind form.test) ≡ true

-- ---- where both branches tell what the test is

-- each value of it is a boolean, whatever is asked
abbrev pub is_truth : Tree → Bool
is_truth a = is_boolean_kind (kind a) && stands a

-- what has the truth of a as its value (ECMA-262, "ToBoolean"): a itself, where its value is a
-- boolean, or `!!a`; and what has the other truth, `!a`
abbrev pub truth_of : Bool → Tree → Tree
truth_of true a = if is_truth a then a else negation (negation a)
truth_of false a = negation a

-- 47: `a ? true : false` becomes `a` where each value of a is a boolean, and else `!!a`;
-- `a ? false : true` becomes `!a`
pub record Row47Both (n w : Tree) : Type 0 where
  pub truth : Bool
  pub test : Tree
  pub consequent : Tree
  pub alternate : Tree
  pub known : evident_truth consequent ≡ Some truth
  pub otherwise : evident_truth alternate ≡ Some (not truth)
  pub effect_free : is_effect_free consequent && is_effect_free alternate ≡ true
  pub dropped : leaves_nothing consequent && leaves_nothing alternate ≡ true
  pub boolean : is_boolean_kind (kind consequent) && is_boolean_kind (kind alternate) ≡ true
  pub plain : is_plain_part test ≡ true
  pub shape : n ≡ conditional test consequent alternate
  pub written : w ≡ truth_of truth test

-- `+a`
abbrev pub plus : Tree → Tree
plus a = unary UnaryPlus a

-- where it stands as the operand of `+`
abbrev pub plus_seat : Seat
plus_seat = unary_operand_seat UnaryPlus

-- a as a boolean, or the negation of a, as the operand of `+`
abbrev pub as_boolean : Bool → Tree → Tree
as_boolean true a = truth_of true a
as_boolean false a = not_of plus_seat a

-- 48: `a ? 1 : 0` becomes `+a` where each value of a is a boolean, and else `+!!a`; `a ? 0 : 1`
-- becomes `+!a` (ECMA-262, "ToNumber": true is 1, and false is 0)
pub record Row48 (n w : Tree) : Type 0 where
  pub truth : Bool
  pub test : Tree
  pub shape : n ≡ conditional test (digit truth) (digit (not truth))
  pub written : w ≡ plus (as_boolean truth test)

-- ---- all

-- rows that are lighter in every seat
abbrev pub LighterRow : Seat → Tree → Tree → Type 0
LighterRow s n w = Row24 s n w ⊎ Row25 s n w

-- and rows that may be heavier for parentheses
abbrev pub JoinedRow : Seat → Tree → Tree → Type 0
JoinedRow s n w = Row26 s n w ⊎ Row47 s n w

-- of a conditional that is no more than its test, as a boolean or as a number
abbrev pub ConvertedRow : Tree → Tree → Type 0
ConvertedRow n w = Row47Both n w ⊎ Row48 n w

-- a row reads n as w at this place
abbrev pub BooleanRow : Position → Tree → Tree → Type 0
BooleanRow (Expr s) n w = LighterRow s n w ⊎ (JoinedRow s n w ⊎ ConvertedRow n w)
BooleanRow _ n w = ⊥

-- what it writes, where it weighs less
pub record BooleanContracts (p : Position) (n w : Tree) : Type 0 where
  pub row : BooleanRow p n w
  pub lighter : weight p w < weight p n

-- which is everywhere, for some
abbrev pub BooleansLighter : Type 0
BooleansLighter = (s : Seat) (n w : Tree) → LighterRow s n w → weight (Expr s) w < weight (Expr s) n

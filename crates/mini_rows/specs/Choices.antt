-- Rows of conditionals, logical expressions and assignments that are written shorter of the same
-- parts, as equations: each is a shape and what is written in its place. No order of rewriting is
-- meant.
use Rattle.std.specs.Prelude.{◌≡◌, ◌<◌, ◌⊎◌, ◌||◌, ◌&&◌, ℕ, ℤ, List, [], Bool, true, false, not, nat_eq, Option, Some, None, is_none, codes}
use Rattle.mini_model.specs.declared.name.Name.{Name}
use Rattle.mini_model.specs.declared.operator.AssignmentOperator.{AssignmentOperator}
use Rattle.mini_model.specs.declared.operator.AssignmentOperator.TheVariants as assigning
use Rattle.mini_model.specs.declared.operator.BinaryOperator.{BinaryOperator}
use Rattle.mini_model.specs.declared.operator.BinaryOperator.TheVariants as binary_operator
use Rattle.mini_model.specs.declared.operator.LogicalOperator.{LogicalOperator}
use Rattle.mini_model.specs.declared.operator.LogicalOperator.TheVariants.{Or, And, Coalesce}
use Rattle.mini_model.specs.declared.operator.UnaryOperator.TheVariants.{Typeof}
use Rattle.mini_model.specs.declared.seat.Seat.{Seat}
use Rattle.mini_model.specs.declared.shape.Shape.{Shape}
use Rattle.mini_model.specs.declared.shape.Shape.TheVariants as shape
use Rattle.mini_model.specs.Tree.{Tree, Trees, node, leaf, none, ◌▸◌, identifier, unary, negation, logical, conditional, null_literal, call}
use Rattle.mini_model.specs.declared.place.Position.{Position}
use Rattle.mini_model.specs.declared.place.Position.TheVariants.{Expr}
use Rattle.mini_model.specs.Position.{conditional_level}
use Rattle.mini_model.specs.Paths.{append}
use Rattle.mini_model.specs.Weight.{is_parenthesized, weight}
use Rattle.mini_node.specs.Kinds.{static_member, computed_member}
use Rattle.mini_terms.specs.Effects.{ef}
use Rattle.mini_terms.specs.Exact.{by_value}
use Rattle.mini_terms.specs.Folds.{goes_on}
use Rattle.mini_terms.specs.Parts.{leaves_nothing}
use Rattle.mini_terms.specs.Reading.{is_item, is_plain_part}
use Rattle.mini_kept.specs.Lawful.{Lawful}
use Rattle.mini_kept.specs.Loosely.{LawfulLoosely}
use Rattle.mini_rows.specs.Arranged.{WhereFixed}
use Rattle.mini_rows.specs.Lists.{sequence}
use Rattle.mini_rows.specs.Nesting.{may_join}
use Rattle.mini_rows.specs.Spellings.{IsUndefined, binary, text, assignment}
use Rattle.mini_rows.specs.Chains.{Row46Chain}
use Rattle.mini_rows.specs.ChainLinks.{ChainRow}
use Rattle.mini_rows.specs.ChainEnds.{EndRow}

-- Reading definitions

-- `x = b`
abbrev pub assign : Name → Tree → Tree
assign x b = assignment assigning.Assign (identifier x) b

-- `a, b`
abbrev pub pair : Tree → Tree → Tree
pair a b = sequence (a ▸ b ▸ none)

abbrev pub is_same_operator : LogicalOperator → LogicalOperator → Bool
is_same_operator Or Or = true
is_same_operator And And = true
is_same_operator Coalesce Coalesce = true
is_same_operator _ _ = false

-- it is an expression of this operator, which would need parentheses on the right of it; or an
-- inner expression, which stands in a carried node alone
abbrev pub is_grouped : LogicalOperator → Tree → Bool
is_grouped o (node (shape.LogicalExpression p) xs n ts) = is_same_operator p o
is_grouped o (node shape.InnerExpression xs n ts) = true
is_grouped o _ = false

-- `b && c && d`: b, and what the operator joins to it, the last operand first
abbrev pub joined : LogicalOperator → Tree → Trees → Tree
joined o b none = b
joined o b (c ▸ cs) = logical o (joined o b cs) c

-- the operators of an equality, where it is told that there is one, and of an inequality: strict,
-- loose, and what joins two
abbrev pub strictly : Bool → BinaryOperator
strictly true = binary_operator.StrictEquality
strictly false = binary_operator.StrictInequality

abbrev pub loosely : Bool → BinaryOperator
loosely true = binary_operator.Equality
loosely false = binary_operator.Inequality

abbrev pub joining : Bool → LogicalOperator
joining true = Or
joining false = And

-- null and undefined, in one order or the other
abbrev pub AreNullish : Tree → Tree → Type 0
AreNullish a b = ((a ≡ null_literal) × IsUndefined b) ⊎ (IsUndefined a × (b ≡ null_literal))

-- the assignment that a logical operator decides on: `x ||= b`
abbrev pub deciding : LogicalOperator → AssignmentOperator
deciding Or = assigning.LogicalOr
deciding And = assigning.LogicalAnd
deciding Coalesce = assigning.LogicalNullish

-- the assignment of what an operator makes of the old value: `x += b`
abbrev pub computing : BinaryOperator → Option AssignmentOperator
computing binary_operator.Addition = Some assigning.Addition
computing binary_operator.Subtraction = Some assigning.Subtraction
computing binary_operator.Multiplication = Some assigning.Multiplication
computing binary_operator.Division = Some assigning.Division
computing binary_operator.Remainder = Some assigning.Remainder
computing binary_operator.Exponential = Some assigning.Exponential
computing binary_operator.ShiftLeft = Some assigning.ShiftLeft
computing binary_operator.ShiftRight = Some assigning.ShiftRight
computing binary_operator.ShiftRightZeroFill = Some assigning.ShiftRightZeroFill
computing binary_operator.BitwiseAnd = Some assigning.BitwiseAnd
computing binary_operator.BitwiseXor = Some assigning.BitwiseXor
computing binary_operator.BitwiseOr = Some assigning.BitwiseOr
computing _ = None

-- The rows

-- 39: `a && (b && c)` becomes `a && b && c`, and so of `||` and `??`, however many operands stand
-- on the right
pub record Row39 (n w : Tree) : Type 0 where
  pub operator : LogicalOperator
  pub a : Tree
  pub b : Tree
  pub last : Tree
  pub others : Trees
  pub ungrouped : is_grouped operator b ≡ false
  pub shape : n ≡ logical operator a (joined operator b (last ▸ others))
  pub written : w ≡ joined operator (logical operator a b) (last ▸ others)

-- 37: `x === null || x === undefined` becomes `x == null`, and `x !== null && x !== undefined`
-- becomes `x != null`, in any order
pub record Row37 (n w : Tree) : Type 0 where
  pub equal : Bool
  pub name : Name
  pub first : Tree
  pub second : Tree
  pub nullish : AreNullish first second
  pub shape : n ≡ logical (joining equal) (binary (strictly equal) (identifier name) first) (binary (strictly equal) (identifier name) second)
  pub written : w ≡ binary (loosely equal) (identifier name) null_literal

-- 37: `a || x === null || x === undefined` becomes `a || x == null`, and so of `&&`
pub record Row37After (n w : Tree) : Type 0 where
  pub equal : Bool
  pub before : Tree
  pub name : Name
  pub first : Tree
  pub second : Tree
  pub nullish : AreNullish first second
  pub shape : n ≡ logical (joining equal) (logical (joining equal) before (binary (strictly equal) (identifier name) first)) (binary (strictly equal) (identifier name) second)
  pub written : w ≡ logical (joining equal) before (binary (loosely equal) (identifier name) null_literal)

-- 38: `x || (x = b)` becomes `x ||= b`, and so of `&&` and `??`
pub record Row38 (n w : Tree) : Type 0 where
  pub operator : LogicalOperator
  pub name : Name
  pub b : Tree
  pub shape : n ≡ logical operator (identifier name) (assign name b)
  pub written : w ≡ assignment (deciding operator) (identifier name) b

-- an assignment has parentheses there only where the operator has them, too
abbrev pub keeps_parentheses : LogicalOperator → Seat → Bool
keeps_parentheses o s = not (is_parenthesized (shape.AssignmentExpression (deciding o)) s) || is_parenthesized (shape.LogicalExpression o) s

-- 38: `x || (a, x = b)` becomes `x ||= (a, b)`, and so of `&&` and `??`
pub record Row38Last (s : Seat) (n w : Tree) : Type 0 where
  pub operator : LogicalOperator
  pub name : Name
  pub first : Tree
  pub others : Trees
  pub b : Tree
  pub seated : keeps_parentheses operator s ≡ true
  pub shape : n ≡ logical operator (identifier name) (sequence (first ▸ append others (assign name b ▸ none)))
  pub written : w ≡ assignment (deciding operator) (identifier name) (sequence (first ▸ append others (b ▸ none)))

-- 35: `x = x + b` becomes `x += b`, and so of the other operators of numbers
pub record Row35 (n w : Tree) : Type 0 where
  pub operator : BinaryOperator
  pub combined : AssignmentOperator
  pub name : Name
  pub b : Tree
  pub computes : computing operator ≡ Some combined
  pub shape : n ≡ assign name (binary operator (identifier name) b)
  pub written : w ≡ assignment combined (identifier name) b

-- a key that is written out: `.k`, `["a-b"]` or `[0]`
pub data Key : Type 0 where
  Named : List ℕ → Key
  Spelled : List ℕ → Key
  Numbered : ℤ → Key

-- `t.k`, `t["a-b"]` or `t[0]`
abbrev pub member_on : Tree → Key → Tree
member_on t (Named s) = static_member t (leaf (shape.IdentifierName s))
member_on t (Spelled s) = computed_member t (leaf (shape.StringLiteral s))
member_on t (Numbered k) = computed_member t (leaf (shape.NumericLiteral k))

-- of a name
abbrev pub member_of : Name → Key → Tree
member_of x k = member_on (identifier x) k

-- 35: `x.k = x.k + b` becomes `x.k += b`, where a scope declares x: nothing happens between the two
-- reads of it (ECMA-262, "Assignment Operators": the target is evaluated first), and a key that is
-- written out is converted without an effect
pub record Row35Member (n w : Tree) : Type 0 where
  pub operator : BinaryOperator
  pub combined : AssignmentOperator
  pub name : Name
  pub key : Key
  pub b : Tree
  pub computes : computing operator ≡ Some combined
  pub declared : is_none name.symbol ≡ false
  pub shape : n ≡ assignment assigning.Assign (member_of name key) (binary operator (member_of name key) b)
  pub written : w ≡ assignment combined (member_of name key) b

-- whether a choice may come after the name is resolved, and, where the operator computes, read:
-- told whether a scope declares the name, and whether the test has no effect
abbrev pub may_choose : AssignmentOperator → Bool → Bool → Bool
may_choose assigning.Assign declared free = declared || free
may_choose assigning.LogicalOr declared free = false
may_choose assigning.LogicalAnd declared free = false
may_choose assigning.LogicalNullish declared free = false
may_choose o declared free = declared && free

-- 45: `a ? x = b : x = c` becomes `x = a ? b : c`, where a scope declares x, or a has no effect;
-- and so of `+=` and the other operators of numbers, where both hold. In a seat of the level of a
-- conditional an assignment would stand in parentheses; a program has none. `this` has an effect
-- where it is asked of the world
pub record ChosenRow (asked : Bool) (s : Seat) (n w : Tree) : Type 0 where
  pub operator : AssignmentOperator
  pub a : Tree
  pub name : Name
  pub b : Tree
  pub c : Tree
  pub chosen : may_choose operator (not (is_none name.symbol)) (ef asked a) ≡ true
  pub seated : nat_eq s.level conditional_level ≡ false
  pub shape : n ≡ conditional a (assignment operator (identifier name) b) (assignment operator (identifier name) c)
  pub written : w ≡ assignment operator (identifier name) (conditional a b c)

-- wherever it stands
abbrev pub Row45 : Seat → Tree → Tree → Type 0
Row45 = ChosenRow true

-- 45: `a ? x.k = b : x.k = c` becomes `x.k = a ? b : c`, where a scope declares x and a has no
-- effect, so that x may be read before it
pub record ChosenMemberRow (asked : Bool) (s : Seat) (n w : Tree) : Type 0 where
  pub a : Tree
  pub name : Name
  pub key : Key
  pub b : Tree
  pub c : Tree
  pub declared : is_none name.symbol ≡ false
  pub effect_free : ef asked a ≡ true
  pub seated : nat_eq s.level conditional_level ≡ false
  pub shape : n ≡ conditional a (assignment assigning.Assign (member_of name key) b) (assignment assigning.Assign (member_of name key) c)
  pub written : w ≡ assignment assigning.Assign (member_of name key) (conditional a b c)

-- wherever it stands
abbrev pub Row45Member : Seat → Tree → Tree → Type 0
Row45Member = ChosenMemberRow true

-- 46: `x == null ? b : x` becomes `x ?? b`, where a scope declares x, and so does
-- `x != null ? x : b`
pub record Row46Equal (n w : Tree) : Type 0 where
  pub name : Name
  pub b : Tree
  pub declared : is_none name.symbol ≡ false
  pub shape : n ≡ conditional (binary binary_operator.Equality (identifier name) null_literal) b (identifier name)
  pub written : w ≡ logical Coalesce (identifier name) b

pub record Row46Unequal (n w : Tree) : Type 0 where
  pub name : Name
  pub b : Tree
  pub declared : is_none name.symbol ≡ false
  pub shape : n ≡ conditional (binary binary_operator.Inequality (identifier name) null_literal) (identifier name) b
  pub written : w ≡ logical Coalesce (identifier name) b

-- `typeof x == "object"`, or `!=`
abbrev pub asks_object : Bool → Name → Tree
asks_object there x = binary (loosely there) (unary Typeof (identifier x)) (text (codes "object"))

-- a comparison of a name with null: strict or not, and an equality or not
abbrev pub null_compared : Bool → Bool → Name → Tree
null_compared true equal x = binary (strictly equal) (identifier x) null_literal
null_compared false equal x = binary (loosely equal) (identifier x) null_literal

-- `!!x`, or `!x`
abbrev pub held : Bool → Name → Tree
held true x = negation (negation (identifier x))
held false x = negation (identifier x)

-- t, or `b && t`
abbrev pub ended : LogicalOperator → Option Tree → Tree → Tree
ended o None t = t
ended o (Some b) t = logical o b t

-- 57: `typeof x == "object" && x !== null` becomes `typeof x == "object" && !!x`, and
-- `typeof x != "object" || x === null` becomes `typeof x != "object" || !x`, with `!=` and `==`
-- too, and after an equal operator to the left
pub record Row57 (n w : Tree) : Type 0 where
  pub there : Bool
  pub strict : Bool
  pub before : Option Tree
  pub name : Name
  pub declared : is_none name.symbol ≡ false
  pub shape : n ≡ logical (joining (not there)) (ended (joining (not there)) before (asks_object there name)) (null_compared strict (not there) name)
  pub written : w ≡ logical (joining (not there)) (ended (joining (not there)) before (asks_object there name)) (held there name)

-- 57: the same in the other order
pub record Row57Null (n w : Tree) : Type 0 where
  pub there : Bool
  pub strict : Bool
  pub before : Option Tree
  pub name : Name
  pub declared : is_none name.symbol ≡ false
  pub shape : n ≡ logical (joining (not there)) (ended (joining (not there)) before (null_compared strict (not there) name)) (asks_object there name)
  pub written : w ≡ logical (joining (not there)) (ended (joining (not there)) before (held there name)) (asks_object there name)

-- What a conditional evaluates in two places is written once

-- 41: `x ? x : b` becomes `x || b`
pub record Row41Or (n w : Tree) : Type 0 where
  pub name : Name
  pub b : Tree
  pub shape : n ≡ conditional (identifier name) (identifier name) b
  pub written : w ≡ logical Or (identifier name) b

-- 41: `x ? b : x` becomes `x && b`
pub record Row41And (n w : Tree) : Type 0 where
  pub name : Name
  pub b : Tree
  pub shape : n ≡ conditional (identifier name) b (identifier name)
  pub written : w ≡ logical And (identifier name) b

-- 42: `a ? b ? c : d : d` becomes `a && b ? c : d`, where `a && b` nests no deeper than may be put
-- deeper
pub record Row42And (n w : Tree) : Type 0 where
  pub a : Tree
  pub b : Tree
  pub c : Tree
  pub d : Tree
  pub shallow : may_join a b ≡ true
  pub shape : n ≡ conditional a (conditional b c d) d
  pub written : w ≡ conditional (logical And a b) c d

-- 42: `a ? c : b ? c : d` becomes `a || b ? c : d`, where `a || b` does so
pub record Row42Or (n w : Tree) : Type 0 where
  pub a : Tree
  pub b : Tree
  pub c : Tree
  pub d : Tree
  pub shallow : may_join a b ≡ true
  pub shape : n ≡ conditional a c (conditional b c d)
  pub written : w ≡ conditional (logical Or a b) c d

-- 43: `a ? b || c : c` becomes `a && b || c`
pub record Row43Or (n w : Tree) : Type 0 where
  pub a : Tree
  pub b : Tree
  pub c : Tree
  pub shape : n ≡ conditional a (logical Or b c) c
  pub written : w ≡ logical Or (logical And a b) c

-- 43: `a ? c : b && c` becomes `(a || b) && c`
pub record Row43And (n w : Tree) : Type 0 where
  pub a : Tree
  pub b : Tree
  pub c : Tree
  pub shape : n ≡ conditional a c (logical And b c)
  pub written : w ≡ logical And (logical Or a b) c

-- 43: `a ? (b, c) : c` becomes `a && b, c`
pub record Row43AndThen (n w : Tree) : Type 0 where
  pub a : Tree
  pub b : Tree
  pub c : Tree
  pub shape : n ≡ conditional a (pair b c) c
  pub written : w ≡ pair (logical And a b) c

-- 43: `a ? c : (b, c)` becomes `a || b, c`
pub record Row43OrThen (n w : Tree) : Type 0 where
  pub a : Tree
  pub b : Tree
  pub c : Tree
  pub shape : n ≡ conditional a c (pair b c)
  pub written : w ≡ pair (logical Or a b) c

-- 49: `a ? b : b` becomes `a, b`
pub record Row49 (n w : Tree) : Type 0 where
  pub a : Tree
  pub b : Tree
  pub shape : n ≡ conditional a b b
  pub written : w ≡ pair a b

-- Where the test has no effect, what both branches read before their own parts may be read before
-- it

abbrev pub spread : Tree → Tree
spread p = node shape.SpreadElement [] 0 (p ▸ none)

-- an argument, and one that is spread: `p`, and `...p`
abbrev pub argument : Bool → Tree → Tree
argument false p = p
argument true p = spread p

-- 44: `a ? f(p, r) : f(q, r)` becomes `f(a ? p : q, r)`, and `a ? f(...p, r) : f(...q, r)` becomes
-- `f(...a ? p : q, r)`, where neither a nor f has an effect, so that f is the same function before
-- a and after it; r may be of any number of arguments, and f, p and q are expressions. `this` has
-- one where it is asked of the world
pub record CallRow (asked : Bool) (n w : Tree) : Type 0 where
  pub a : Tree
  pub callee : Tree
  pub is_spread : Bool
  pub p : Tree
  pub q : Tree
  pub others : Trees
  pub plain : is_plain_part callee ≡ true
  pub idle : ef asked callee ≡ true
  pub effect_free : ef asked a ≡ true
  pub first : is_spread || is_item p ≡ true
  pub second : is_spread || is_item q ≡ true
  pub shape : n ≡ conditional a (call false callee (argument is_spread p ▸ others)) (call false callee (argument is_spread q ▸ others))
  pub written : w ≡ call false callee (argument is_spread (conditional a p q) ▸ others)

-- wherever it stands
abbrev pub Row44 : Tree → Tree → Type 0
Row44 = CallRow true

-- 13, and 15 of `??`: after a left side that lets the right one be evaluated, whatever it does
-- besides, both are in order: `(x = []) && b` becomes `x = [], b`, and `void f() ?? b` becomes
-- `void f(), b`
pub record Row13Both (n w : Tree) : Type 0 where
  pub operator : LogicalOperator
  pub left : Tree
  pub right : Tree
  pub known : goes_on operator left ≡ true
  pub shape : n ≡ logical operator left right
  pub written : w ≡ pair left right

-- 45: `a ? x[k] = b : x[k] = c` becomes `x[k] = a ? b : c`, where a scope declares x, and neither a
-- nor k has an effect: what is assigned to is known before the test as after it
pub record ChosenIndexedRow (asked : Bool) (s : Seat) (n w : Tree) : Type 0 where
  pub a : Tree
  pub name : Name
  pub key : Tree
  pub b : Tree
  pub c : Tree
  pub declared : is_none name.symbol ≡ false
  pub effect_free : ef asked a ≡ true
  pub idle : ef asked key ≡ true
  pub seated : nat_eq s.level conditional_level ≡ false
  pub shape : n ≡ conditional a (assignment assigning.Assign (computed_member (identifier name) key) b) (assignment assigning.Assign (computed_member (identifier name) key) c)
  pub written : w ≡ assignment assigning.Assign (computed_member (identifier name) key) (conditional a b c)

-- wherever it stands
abbrev pub Row45Indexed : Seat → Tree → Tree → Type 0
Row45Indexed = ChosenIndexedRow true

-- 21: `(null, a.b)()` becomes `(0, a.b)()`, as does what 13, 15 and 49 leave of `(null ?? a.b)()`.
-- The first part has no effect, and where the last one may not stand alone is there that it is read
-- by its value, for which the shortest does. `this` has an effect where it is asked of the world
pub record ZeroRow (asked : Bool) (n w : Tree) : Type 0 where
  pub idle : Tree
  pub last : Tree
  pub effect_free : ef asked idle ≡ true
  pub dropped : leaves_nothing idle ≡ true
  pub shape : n ≡ pair idle last
  pub written : w ≡ by_value last

-- wherever it stands
abbrev pub Row21Zero : Tree → Tree → Type 0
Row21Zero = ZeroRow true

-- rows of what is lighter in every seat
pub data LighterRow (s : Seat) (n w : Tree) : Type 0 where
  Rotated : Row39 n w → LighterRow s n w
  Decided : Row38 n w → LighterRow s n w
  Combined : Row35 n w → LighterRow s n w
  NullishIfEqual : Row46Equal n w → LighterRow s n w
  NullishIfUnequal : Row46Unequal n w → LighterRow s n w
  Chosen : Row45 s n w → LighterRow s n w
  LooseNull : Row37 n w → LighterRow s n w
  LooseNullAfter : Row37After n w → LighterRow s n w
  ObjectTest : Row57 n w → LighterRow s n w
  ObjectTestAfter : Row57Null n w → LighterRow s n w
  CombinedMember : Row35Member n w → LighterRow s n w
  ChosenMember : Row45Member s n w → LighterRow s n w
  DecidedLast : Row38Last s n w → LighterRow s n w

-- of what may be heavier for its parentheses
pub data OwnRow (n w : Tree) : Type 0 where
  OrTest : Row41Or n w → OwnRow n w
  AndTest : Row41And n w → OwnRow n w

-- and of a branch that stands in two places
pub data HeldRow (n w : Tree) : Type 0 where
  AndBoth : Row42And n w → HeldRow n w
  OrEither : Row42Or n w → HeldRow n w
  LastAfterOr : Row43Or n w → HeldRow n w
  LastAfterAnd : Row43And n w → HeldRow n w
  AndThenOr : Row43AndThen n w → HeldRow n w
  OrThenAnd : Row43OrThen n w → HeldRow n w
  Alike : Row49 n w → HeldRow n w

-- a row of choices reads n as w in this seat
pub data Choice (s : Seat) (n w : Tree) : Type 0 where
  Shorter : LighterRow s n w → Choice s n w
  TestedBranch : OwnRow n w → Choice s n w
  SharedBranch : HeldRow n w → Choice s n w
  OptionalChain : Row46Chain s n w → Choice s n w
  JoinedCall : Row44 n w → Choice s n w
  ChainLink : ChainRow s n w → Choice s n w
  ChainEnd : EndRow n w → Choice s n w
  BothSides : Row13Both n w → Choice s n w
  ChosenIndexed : Row45Indexed s n w → Choice s n w
  ZeroFirst : Row21Zero n w → Choice s n w

-- at this place
abbrev pub ChoiceRow : Position → Tree → Tree → Type 0
ChoiceRow (Expr s) n w = Choice s n w
ChoiceRow _ n w = ⊥

-- what it writes, where it weighs less
pub record ChoiceContracts (p : Position) (n w : Tree) : Type 0 where
  pub row : ChoiceRow p n w
  pub lighter : weight p w < weight p n

-- which is everywhere, for some
abbrev pub ChoicesLighter : Type 0
ChoicesLighter = (s : Seat) (n w : Tree) → LighterRow s n w → weight (Expr s) w < weight (Expr s) n

abbrev pub CallsLighter : Type 0
CallsLighter = (s : Seat) (n w : Tree) → Row44 n w → weight (Expr s) w < weight (Expr s) n

abbrev pub IndexedLighter : Type 0
IndexedLighter = (s : Seat) (n w : Tree) → Row45Indexed s n w → weight (Expr s) w < weight (Expr s) n

-- ---- the laws

-- what it writes is lawful, where what a write of each variable does stays
abbrev pub ChoicesLawful : Type 0
ChoicesLawful = Lawful (WhereFixed ChoiceContracts)

-- and loosely, where names go that are declared in what goes and can't be written
abbrev pub ChoicesLoose : Type 0
ChoicesLoose = (K : Shape → Bool) → LawfulLoosely K ChoiceContracts

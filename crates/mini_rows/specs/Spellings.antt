-- Rows on how an expression is spelled, as equations: each is a shape and what is written in its
-- place. No order of rewriting is meant.
use Rattle.std.specs.Prelude.{◌≡◌, ◌<◌, ◌⊎◌, ℕ, nat_le, Bool, true, false, List, [], length, Some, codes, ℤ, pos, negsuc}
use Rattle.std.specs.Fmt.{signed_decimal}
use Rattle.mini_model.specs.Texts.{is_identifier_name}
use Rattle.mini_model.specs.Numerals.{IsSafe}
use Rattle.mini_model.specs.declared.operator.AssignmentOperator.{AssignmentOperator}
use Rattle.mini_model.specs.declared.operator.AssignmentOperator.TheVariants.{Subtraction}
use Rattle.mini_model.specs.declared.operator.BinaryOperator.{BinaryOperator}
use Rattle.mini_model.specs.declared.operator.BinaryOperator.TheVariants.{Equality, Inequality, StrictEquality, StrictInequality, LessThan, GreaterThan}
use Rattle.mini_model.specs.declared.operator.UnaryOperator.TheVariants.{Typeof, Void}
use Rattle.mini_model.specs.declared.operator.UpdateOperator.{UpdateOperator}
use Rattle.mini_model.specs.declared.operator.UpdateOperator.TheVariants.{Increment, Decrement}
use Rattle.mini_model.specs.declared.shape.Shape.TheVariants as shape
use Rattle.mini_model.specs.Tree.{Tree, node, none, ◌▸◌, leaf, absent, listed, identifier, unresolved, unary, negation, null_literal}
use Rattle.mini_model.specs.declared.place.Position.{Position}
use Rattle.mini_model.specs.declared.place.Position.TheVariants.{Expr}
use Rattle.mini_model.specs.Position.{is_equality, binary_operand_seat}
use Rattle.mini_model.specs.Weight.{outlines, is_awkward, weight}
use Rattle.mini_terms.specs.Reading.{is_typed_by_value}

-- Reading definitions: one function a node

abbrev pub numeral : ℤ → Tree
numeral n = leaf (shape.NumericLiteral n)

-- a text in quotes
abbrev pub text : List ℕ → Tree
text s = leaf (shape.StringLiteral s)

-- the name of a property
abbrev pub key : List ℕ → Tree
key s = leaf (shape.IdentifierName s)

abbrev pub boolean : Bool → Tree
boolean b = leaf (shape.BooleanLiteral b)

abbrev pub big_int : ℕ → Tree
big_int n = leaf (shape.BigIntLiteral n)

-- a template without expressions, of its one piece: the raw text and the cooked one
abbrev pub template : Bool → List ℕ → List ℕ → Tree
template is_tail raw cooked = node shape.TemplateLiteral [] 0 (listed (leaf (shape.TemplateElement is_tail raw (Some cooked)) ▸ none) ▸ listed none ▸ none)

-- `void 0`
abbrev pub void_zero : Tree
void_zero = unary Void (numeral (pos 0))

abbrev pub binary : BinaryOperator → Tree → Tree → Tree
binary o a b = node (shape.BinaryExpression o) [] 0 (a ▸ b ▸ none)

abbrev pub assignment : AssignmentOperator → Tree → Tree → Tree
assignment o target value = node (shape.AssignmentExpression o) [] 0 (target ▸ value ▸ none)

abbrev pub update : UpdateOperator → Bool → Tree → Tree
update o is_prefix target = node (shape.UpdateExpression o is_prefix) [] 0 (target ▸ none)

-- `o[k]`, or `o?.[k]`
abbrev pub computed_member : Bool → Tree → Tree → Tree
computed_member is_optional o k = node (shape.ComputedMemberExpression is_optional) [] 0 (o ▸ k ▸ none)

-- `o.k`, or `o?.k`
abbrev pub static_member : Bool → Tree → Tree → Tree
static_member is_optional o k = node (shape.StaticMemberExpression is_optional) [] 0 (o ▸ k ▸ none)

-- `yield a`, or `yield` of an argument that is absent
abbrev pub yields : Tree → Tree
yields a = node (shape.YieldExpression false) [] 0 (a ▸ none)

-- `undefined`, which no scope declares, or `void 0`
abbrev pub IsUndefined : Tree → Type 0
IsUndefined v = (v ≡ identifier (unresolved (codes "undefined"))) ⊎ (v ≡ void_zero)

-- `==` or `!=`
abbrev pub IsLoose : BinaryOperator → Type 0
IsLoose o = (o ≡ Equality) ⊎ (o ≡ Inequality)

-- what writes a value out: a literal other than a regular expression, a template without
-- expressions, `void 0`
pub data PlainForm : Type 0 where
  a_number : ℤ → PlainForm
  a_text : List ℕ → PlainForm
  a_boolean : Bool → PlainForm
  a_null : PlainForm
  a_big_int : ℕ → PlainForm
  a_template : Bool → List ℕ → List ℕ → PlainForm
  a_void : PlainForm

abbrev pub plain : PlainForm → Tree
plain (a_number n) = numeral n
plain (a_text s) = text s
plain (a_boolean b) = boolean b
plain a_null = null_literal
plain (a_big_int n) = big_int n
plain (a_template is_tail raw cooked) = template is_tail raw cooked
plain a_void = void_zero

-- it would weigh more as the left operand of an equality: it is plain, or a sequence
abbrev pub is_awkward_left : Tree → Bool
is_awkward_left (node h xs n ts) = is_awkward (binary_operand_seat Equality 0) h (outlines ts)

-- an inner expression stands in a carried node alone, and never in an operator's operand
abbrev pub is_inner : Tree → Bool
is_inner (node shape.InnerExpression xs n ts) = true
is_inner _ = false

-- The rows

-- `!0` and `!1`
abbrev pub negated_digit : Bool → Tree
negated_digit true = negation (numeral (pos 0))
negated_digit false = negation (numeral (pos 1))

-- 65: `true` becomes `!0`, `false` becomes `!1`
pub record Row65 (n w : Tree) : Type 0 where
  pub value : Bool
  pub shape : n ≡ boolean value
  pub written : w ≡ negated_digit value

-- 33, of a name: `o["x"]` becomes `o.x`, and `o?.["x"]` becomes `o?.x`
pub record Row33Name (n w : Tree) : Type 0 where
  pub is_optional : Bool
  pub object : Tree
  pub name : List ℕ
  pub is_name : is_identifier_name name ≡ true
  pub shape : n ≡ computed_member is_optional object (text name)
  pub written : w ≡ static_member is_optional object (key name)

-- 33, of the text of a number: `o["1"]` becomes `o[1]`
pub record Row33Number (n w : Tree) : Type 0 where
  pub object : Tree
  pub number : ℤ
  pub is_safe : IsSafe number
  pub shape : n ≡ computed_member false object (text (signed_decimal number))
  pub written : w ≡ computed_member false object (numeral number)

abbrev pub Row33 : Tree → Tree → Type 0
Row33 n w = Row33Name n w ⊎ Row33Number n w

-- 33, of what is assigned to: `o["x"] = v` becomes `o.x = v`
pub record Row33Assigned (n w : Tree) : Type 0 where
  pub operator : AssignmentOperator
  pub target : Tree
  pub turned : Tree
  pub value : Tree
  pub member : Row33 target turned
  pub shape : n ≡ assignment operator target value
  pub written : w ≡ assignment operator turned value

-- 33, of what is updated: `o["x"]++` becomes `o.x++`
pub record Row33Updated (n w : Tree) : Type 0 where
  pub operator : UpdateOperator
  pub is_prefix : Bool
  pub target : Tree
  pub turned : Tree
  pub member : Row33 target turned
  pub shape : n ≡ update operator is_prefix target
  pub written : w ≡ update operator is_prefix turned

-- 58, on the left: `void 0 == b` becomes `null == b`
pub record Row58Left (n w : Tree) : Type 0 where
  pub operator : BinaryOperator
  pub left : Tree
  pub right : Tree
  pub loose : IsLoose operator
  pub undefined : IsUndefined left
  pub shape : n ≡ binary operator left right
  pub written : w ≡ binary operator null_literal right

-- 58, on the right: `a == void 0` becomes `a == null`
pub record Row58Right (n w : Tree) : Type 0 where
  pub operator : BinaryOperator
  pub left : Tree
  pub right : Tree
  pub loose : IsLoose operator
  pub undefined : IsUndefined right
  pub shape : n ≡ binary operator left right
  pub written : w ≡ binary operator left null_literal

-- 54: `1 == b` becomes `b == 1`, of the four equalities. A sequence stays on the right, where it
-- weighs as much
pub record Row54 (n w : Tree) : Type 0 where
  pub operator : BinaryOperator
  pub left : PlainForm
  pub right : Tree
  pub equality : is_equality operator ≡ true
  pub ready : is_awkward_left right ≡ false
  pub outer : is_inner right ≡ false
  pub shape : n ≡ binary operator (plain left) right
  pub written : w ≡ binary operator right (plain left)

-- 60, of `yield`: `yield void 0` becomes `yield`
pub record Row60Yield (n w : Tree) : Type 0 where
  pub shape : n ≡ yields void_zero
  pub written : w ≡ yields absent

-- of an equality with the text `undefined` on its right, the operator that tells as much beside
-- `u`: of the texts that `typeof` gives that one alone is greater than `u` (ECMA-262, "The typeof
-- Operator")
abbrev pub ordered : BinaryOperator → BinaryOperator
ordered Equality = GreaterThan
ordered StrictEquality = GreaterThan
ordered o = LessThan

-- `typeof x`, of a name that no scope declares
abbrev pub typeof_name : List ℕ → Tree
typeof_name s = unary Typeof (identifier (unresolved s))

-- 55: `typeof x == "undefined"` becomes `typeof x > "u"`, and of an inequality `typeof x < "u"`
pub record Row55 (n w : Tree) : Type 0 where
  pub operator : BinaryOperator
  pub name : List ℕ
  pub equality : is_equality operator ≡ true
  pub shape : n ≡ binary operator (typeof_name name) (text (codes "undefined"))
  pub written : w ≡ binary (ordered operator) (typeof_name name) (text (codes "u"))

-- of an equality, the strict one that says as much
abbrev pub strict_operator : BinaryOperator → BinaryOperator
strict_operator Equality = StrictEquality
strict_operator StrictEquality = StrictEquality
strict_operator o = StrictInequality

-- 55, of what `typeof` reads by its value, as a declared name, a member or a call:
-- `typeof a == "undefined"` becomes `a === void 0`, and of an inequality `a !== void 0`
pub record Row55Value (n w : Tree) : Type 0 where
  pub operator : BinaryOperator
  pub operand : Tree
  pub equality : is_equality operator ≡ true
  pub value : is_typed_by_value operand ≡ true
  pub shape : n ≡ binary operator (unary Typeof operand) (text (codes "undefined"))
  pub written : w ≡ binary (strict_operator operator) operand void_zero

-- 19: a template without expressions becomes its text, as abc in backticks becomes `"abc"`. What is
-- written in it is no shorter than the text, as in any program
pub record Row19 (n w : Tree) : Type 0 where
  pub is_tail : Bool
  pub raw : List ℕ
  pub content : List ℕ
  pub shorter : nat_le (length content) (length raw) ≡ true
  pub shape : n ≡ template is_tail raw content
  pub written : w ≡ text content

-- 1, or -1
abbrev pub amount : UpdateOperator → Tree
amount Decrement = numeral (pos 1)
amount Increment = numeral (negsuc 0)

-- `t -= 1`, or `t -= -1`
abbrev pub subtracts : UpdateOperator → Tree → Tree
subtracts o t = assignment Subtraction t (amount o)

-- `--t`, or `++t`
abbrev pub steps : UpdateOperator → Tree → Tree
steps o t = update o true t

-- 36: `t -= 1` becomes `--t`, and `t -= -1` becomes `++t`: both convert what t holds to a number
-- (ECMA-262, "Assignment Operators" and "Update Expressions")
pub record Row36 (n w : Tree) : Type 0 where
  pub operator : UpdateOperator
  pub target : Tree
  pub shape : n ≡ subtracts operator target
  pub written : w ≡ steps operator target

-- a row on a spelling reads n as w
pub data Spelling (n w : Tree) : Type 0 where
  ShortBoolean : Row65 n w → Spelling n w
  DottedMember : Row33 n w → Spelling n w
  DottedTarget : Row33Assigned n w → Spelling n w
  DottedUpdate : Row33Updated n w → Spelling n w
  LooseLeft : Row58Left n w → Spelling n w
  LooseRight : Row58Right n w → Spelling n w
  SwappedEquality : Row54 n w → Spelling n w
  BareYield : Row60Yield n w → Spelling n w
  OrderedTypeof : Row55 n w → Spelling n w
  PlainTemplate : Row19 n w → Spelling n w
  ComparedWithVoid : Row55Value n w → Spelling n w
  Stepped : Row36 n w → Spelling n w

-- at this place
abbrev pub SpellingRow : Position → Tree → Tree → Type 0
SpellingRow (Expr s) n w = Spelling n w
SpellingRow _ n w = ⊥

-- what it writes, where it weighs less
pub record SpellingContracts (p : Position) (n w : Tree) : Type 0 where
  pub row : SpellingRow p n w
  pub lighter : weight p w < weight p n

-- which is everywhere
abbrev pub SpellingsLighter : Type 0
SpellingsLighter = (p : Position) (n w : Tree) → SpellingRow p n w → weight p w < weight p n

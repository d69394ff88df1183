-- Rows on what is known of an expression from its text, as equations: each is a shape and what is
-- written in its place, with the JavaScript before and after. No order of rewriting is meant.
use Rattle.std.specs.Prelude.{◌≡◌, ℕ, pos, ◌<◌, ◌≤◌, ◌⊎◌, ◌&&◌, ◌||◌, Bool, true, false, List, [], ◌∷◌, length, codes, Option, Some, None}
use Rattle.mini_model.specs.declared.name.Name.{Name}
use Rattle.mini_model.specs.declared.operator.AssignmentOperator.{AssignmentOperator}
use Rattle.mini_model.specs.declared.operator.AssignmentOperator.TheVariants.{Assign}
use Rattle.mini_model.specs.declared.operator.LogicalOperator.TheVariants.{And}
use Rattle.mini_model.specs.declared.shape.Shape.{Shape}
use Rattle.mini_model.specs.declared.shape.Shape.TheVariants as shape
use Rattle.mini_model.specs.declared.operator.BinaryOperator.{BinaryOperator}
use Rattle.mini_model.specs.declared.operator.BinaryOperator.TheVariants.{Equality, Inequality, StrictEquality, StrictInequality}
use Rattle.mini_model.specs.declared.operator.LogicalOperator.{LogicalOperator}
use Rattle.mini_model.specs.declared.place.Position.{Position}
use Rattle.mini_model.specs.declared.place.Position.TheVariants.{Expr, Stmt}
use Rattle.mini_model.specs.declared.seat.Seat.{Seat}
use Rattle.mini_model.specs.Numerals.{max_safe_integer}
use Rattle.mini_model.specs.Tree.{Tree, shape_of, logical, conditional, expression_statement, empty_statement}
use Rattle.mini_model.specs.Weight.{same_text, weight}
use Rattle.mini_node.specs.Children.{names_of, part}
use Rattle.mini_node.specs.Kinds.{assignment_operator, is_identifier, is_static_member, is_computed_member}
use Rattle.mini_terms.specs.Folds.{is_effect_free, has_one_kind, goes_on, stops}
use Rattle.mini_kept.specs.Lawful.{Lawful}
use Rattle.mini_kept.specs.Loosely.{LawfulLoosely}
use Rattle.mini_kept.specs.Placed.{is_chain_seat}
use Rattle.mini_terms.specs.Parts.{takes_numbers, suits, leaves_nothing, weighs}
use Rattle.mini_terms.specs.Reading.{is_unguarded}
use Rattle.mini_rows.specs.Arranged.{WhereFixed}
use Rattle.mini_rows.specs.ForParts.{ForPartRow}
use Rattle.mini_rows.specs.Lists.{encloses}
use Rattle.mini_rows.specs.Spellings.{binary, static_member, text, key, numeral}

-- 13, and 15 of `??`: where the left side is effect-free and known to let the right one be
-- evaluated, `!0 && b`, `0 || b` and `null ?? b` become `b`
pub record Row13 (s : Seat) (n w : Tree) : Type 0 where
  pub operator : LogicalOperator
  pub left : Tree
  pub right : Tree
  pub known : goes_on operator left ≡ true
  pub effect_free : is_effect_free left ≡ true
  pub dropped : leaves_nothing left ≡ true
  pub heavy : weighs left ≡ true
  pub stays : suits s right ≡ true
  pub shape : n ≡ logical operator left right
  pub written : w ≡ right

-- `module.exports = b` and `module["exports"] = b`, by name alone: after `0 &&` they tell other
-- programs which names a module exports

abbrev pub is_spelled : List Name → List ℕ → Bool
is_spelled [] s = false
is_spelled (x ∷ xs) s = same_text x.spelling s

abbrev pub is_module : Tree → Bool
is_module t = is_identifier t && is_spelled (names_of t) (codes "module")

abbrev pub is_exports_by : Shape → Bool
is_exports_by (shape.IdentifierName s) = same_text s (codes "exports")
is_exports_by (shape.StringLiteral s) = same_text s (codes "exports")
is_exports_by h = false

abbrev pub is_exports : Tree → Bool
is_exports t = (is_static_member t || is_computed_member t) && (is_module (part t 0) && is_exports_by (shape_of (part t 1)))

abbrev pub is_plain_assignment : Option AssignmentOperator → Bool
is_plain_assignment (Some Assign) = true
is_plain_assignment o = false

abbrev pub assigns_exports : Tree → Bool
assigns_exports t = is_plain_assignment (assignment_operator t) && is_exports (part t 0)

abbrev pub names_exports : LogicalOperator → Tree → Bool
names_exports And b = assigns_exports b
names_exports o b = false

-- 12, and 15 of `??`: where the right side is never evaluated, `0 && b`, `[] || b` and `"" ?? b`
-- become their left sides; what goes takes along what it declares that can't be written, as a
-- function's own name
pub record Row12 (s : Seat) (n w : Tree) : Type 0 where
  pub operator : LogicalOperator
  pub left : Tree
  pub right : Tree
  pub known : stops operator left ≡ true
  pub nameless : names_exports operator right ≡ false
  pub dropped : encloses false right ≡ true
  pub heavy : weighs right ≡ true
  pub stays : suits s left ≡ true
  pub shape : n ≡ logical operator left right
  pub written : w ≡ left

-- `==` for `===`, and `!=` for `!==`
abbrev pub loosened : BinaryOperator → Option BinaryOperator
loosened StrictEquality = Some Equality
loosened StrictInequality = Some Inequality
loosened o = None

-- 28: where both sides are of one known Kind, `typeof a === "string"` becomes
-- `typeof a == "string"`
pub record Row28 (n w : Tree) : Type 0 where
  pub operator : BinaryOperator
  pub loose : BinaryOperator
  pub left : Tree
  pub right : Tree
  pub loosens : loosened operator ≡ Some loose
  pub alike : has_one_kind left right ≡ true
  pub shape : n ≡ binary operator left right
  pub written : w ≡ binary loose left right

-- 49, where the test is effect-free: `a ? b : b` becomes `b`
pub record Row49Idle (s : Seat) (n w : Tree) : Type 0 where
  pub test : Tree
  pub branch : Tree
  pub effect_free : is_effect_free test ≡ true
  pub dropped : leaves_nothing test ≡ true
  pub heavy : weighs test ≡ true
  pub stays : suits s branch ≡ true
  pub shape : n ≡ conditional test branch branch
  pub written : w ≡ branch

-- 9: `"abc".length` becomes `3`: how many UTF-16 units a text has (ECMA-262, "String Exotic
-- Objects"). Where a reference is asked, as of what `delete` deletes, the member stays, and so it
-- does under a `-`, which would be one with the number. What a chain holds is no number
pub record Row9 (s : Seat) (n w : Tree) : Type 0 where
  pub units : List ℕ
  pub unguarded : is_unguarded s.guard ≡ true
  pub unsigned : takes_numbers s ≡ true
  pub unchained : is_chain_seat s ≡ false
  pub small : length units ≤ max_safe_integer
  pub shape : n ≡ static_member false (text units) (key (codes "length"))
  pub written : w ≡ numeral (pos (length units))

-- 22: an effect-free expression statement becomes empty, `void 0;` becomes `;`
pub record Row22 (n w : Tree) : Type 0 where
  pub expression : Tree
  pub effect_free : is_effect_free expression ≡ true
  pub dropped : leaves_nothing expression ≡ true
  pub shape : n ≡ expression_statement expression
  pub written : w ≡ empty_statement

-- a row on what is known reads n as w at this place
abbrev pub FoldingRow : Position → Tree → Tree → Type 0
FoldingRow (Expr s) n w = Row13 s n w ⊎ (Row12 s n w ⊎ (Row28 n w ⊎ (Row49Idle s n w ⊎ Row9 s n w)))
FoldingRow (Stmt q) n w = Row22 n w ⊎ ForPartRow n w
FoldingRow _ n w = ⊥

-- what it writes, where it weighs less
pub record FoldingContracts (p : Position) (n w : Tree) : Type 0 where
  pub row : FoldingRow p n w
  pub lighter : weight p w < weight p n

-- which is everywhere
abbrev pub FoldingsLighter : Type 0
FoldingsLighter = (p : Position) (n w : Tree) → FoldingRow p n w → weight p w < weight p n

-- ---- the laws

-- what it writes is lawful, where what a write of each variable does stays
abbrev pub FoldingsLawful : Type 0
FoldingsLawful = Lawful (WhereFixed FoldingContracts)

-- and loosely, where names go that are declared in what goes and can't be written
abbrev pub FoldingsLoose : Type 0
FoldingsLoose = (K : Shape → Bool) → LawfulLoosely K FoldingContracts

-- Rows that turn a test and swap what it chooses between: each is a shape and what is written in
-- its place, with the JavaScript before and after.
use Rattle.std.specs.Prelude.{◌≡◌, ◌⊎◌, ◌<◌, Bool, true, false}
use Rattle.mini_model.specs.declared.operator.BinaryOperator.{BinaryOperator}
use Rattle.mini_model.specs.declared.operator.BinaryOperator.TheVariants.{Equality, Inequality, StrictEquality, StrictInequality}
use Rattle.mini_model.specs.declared.place.Position.{Position}
use Rattle.mini_model.specs.declared.place.Position.TheVariants.{Expr, Stmt}
use Rattle.mini_model.specs.declared.shape.Shape.{Shape}
use Rattle.mini_model.specs.declared.shape.Shape.TheVariants as shape
use Rattle.mini_model.specs.Tree.{Tree, Trees, none, ◌▸◌, shape_of, negation, conditional, if_else}
use Rattle.mini_model.specs.Weight.{weight}
use Rattle.mini_rows.specs.Lists.{block}
use Rattle.mini_rows.specs.Spellings.{binary}
use Rattle.mini_rows.specs.Branches.{has_else, is_other_branch}

-- ---- terms

-- `!==` or `!=`
abbrev pub unequal : Bool → BinaryOperator
unequal true = StrictInequality
unequal false = Inequality

-- `===` or `==`
abbrev pub equal : Bool → BinaryOperator
equal true = StrictEquality
equal false = Equality

abbrev pub is_unchained_shape : Shape → Bool
is_unchained_shape shape.IfStatement = false
is_unchained_shape shape.InnerExpression = false
is_unchained_shape shape.Absent = false
is_unchained_shape _ = true

-- an alternate that is there, and is no `if`
abbrev pub is_unchained : Tree → Bool
is_unchained t = is_unchained_shape (shape_of t)

abbrev pub is_block_shape : Shape → Bool
is_block_shape shape.BlockStatement = true
is_block_shape _ = false

-- an `if` with `else`, and what is no statement but may weigh as one
abbrev pub chooses_by : Shape → Tree → Bool
chooses_by shape.IfStatement t = has_else t
chooses_by shape.Listed t = true
chooses_by _ t = false

abbrev pub may_choose : Tree → Bool
may_choose t = chooses_by (shape_of t) t

-- an `if` with `else` alone
abbrev pub one_chooses : Trees → Bool
one_chooses (t ▸ none) = may_choose t
one_chooses _ = false

-- a block that holds more or less than an `if` with `else` alone
pub record HoldsOther (t : Tree) : Type 0 where
  pub statements : Trees
  pub is : t ≡ block statements
  pub other : one_chooses statements ≡ false

-- a consequent whose braces, if it has any, weigh as much as those of an alternate: those of a
-- block that holds an `if` with `else` alone weigh nothing
abbrev pub KeepsBraces : Tree → Type 0
KeepsBraces t = (is_block_shape (shape_of t) ≡ false) ⊎ HoldsOther t

-- ---- 40, of an inequality

-- `a != b ? c : d` becomes `a == b ? d : c`, and so does `!==`
pub record Row40Unequal (n w : Tree) : Type 0 where
  pub is_strict : Bool
  pub a : Tree
  pub b : Tree
  pub c : Tree
  pub d : Tree
  pub shape : n ≡ conditional (binary (unequal is_strict) a b) c d
  pub written : w ≡ conditional (binary (equal is_strict) a b) d c

-- ---- 83, of a negated test

-- `if (!a) return b; else { c(); d(); }` becomes `if (a) { c(); d(); } else return b;`
pub record Row83Swapped (n w : Tree) : Type 0 where
  pub a : Tree
  pub s : Tree
  pub u : Tree
  pub other : is_other_branch s ≡ true
  pub braces : KeepsBraces s
  pub unchained : is_unchained u ≡ true
  pub shape : n ≡ if_else (negation a) s u
  pub written : w ≡ if_else a u s

-- ---- all

-- a row reads n as w at this place
abbrev pub TurnRow : Position → Tree → Tree → Type 0
TurnRow (Expr s) n w = Row40Unequal n w
TurnRow (Stmt q) n w = Row83Swapped n w
TurnRow _ n w = ⊥

-- what a row writes, where it weighs less
pub record TurnContracts (p : Position) (n w : Tree) : Type 0 where
  pub row : TurnRow p n w
  pub lighter : weight p w < weight p n

-- what each row writes is lighter wherever the node stands
abbrev pub TurnsLighter : Type 0
TurnsLighter = (p : Position) (n w : Tree) → TurnRow p n w → weight p w < weight p n

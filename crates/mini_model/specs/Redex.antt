-- What can be rewritten: each row is a shape and what is written in its place. A node is a redex
-- where a row names it and what is written weighs less there. No order of rewriting is meant.
use Rattle.std.specs.Prelude.{◌≡◌, ◌<◌, ◌⊎◌, ℕ, true, false}
use Rattle.mini_model.specs.declared.operator.LogicalOperator.TheVariants.{Or, And}
use Rattle.mini_model.specs.declared.seat.Seat.{Seat}
use Rattle.mini_model.specs.Tree.{Tree, Trees, expression_statement, if_else, if_alone, negation, logical, conditional}
use Rattle.mini_model.specs.Position.{Position, Expr, Stmt, statement_expression_seat, left_operand_seat}
use Rattle.mini_model.specs.Weight.{weight}
use Rattle.mini_model.specs.Rewriting.{Everywhere, EverywhereIn}
use Rattle.mini_model.specs.Terms.{neg, not_of, has_negated_result}

-- 23: `!e` becomes the negation of e
pub record Row23 (s : Seat) (n w : Tree) : Type 0 where
  pub e : Tree
  pub shape : n ≡ negation e
  pub written : w ≡ neg s e

-- 40: `!a ? b : c` becomes `a ? c : b`
pub record Row40 (n w : Tree) : Type 0 where
  pub a : Tree
  pub b : Tree
  pub c : Tree
  pub shape : n ≡ conditional (negation a) b c
  pub written : w ≡ conditional a c b

-- 82, with `else`: `if (a) b; else c;` becomes `a ? b : c`
pub record Row82Else (n w : Tree) : Type 0 where
  pub a : Tree
  pub b : Tree
  pub c : Tree
  pub shape : n ≡ if_else a (expression_statement b) (expression_statement c)
  pub written : w ≡ expression_statement (conditional a b c)

-- 82, without: `if (a) b;` becomes `a && b`
pub record Row82And (n w : Tree) : Type 0 where
  pub a : Tree
  pub b : Tree
  pub shape : n ≡ if_alone a (expression_statement b)
  pub plain : has_negated_result a ≡ false
  pub written : w ≡ expression_statement (logical And a b)

-- 82, without, where the test ends in a `!`: `if (!a) b;` becomes `a || b`
pub record Row82Or (n w : Tree) : Type 0 where
  pub a : Tree
  pub b : Tree
  pub shape : n ≡ if_alone a (expression_statement b)
  pub negated : has_negated_result a ≡ true
  pub written : w ≡ expression_statement (logical Or (not_of (left_operand_seat Or statement_expression_seat) a) b)

-- a row reads n as w at this place
abbrev pub Row : Position → Tree → Tree → Type 0
Row (Expr s) n w = Row23 s n w ⊎ Row40 n w
Row (Stmt q) n w = Row82Else n w ⊎ (Row82And n w ⊎ Row82Or n w)
Row _ n w = ⊥

-- what a row writes, where it weighs less
pub record Contracts (p : Position) (n w : Tree) : Type 0 where
  pub row : Row p n w
  pub lighter : weight p w < weight p n

-- a redex in its place
pub record Redex (p : Position) (n : Tree) : Type 0 where
  pub to : Tree
  pub contracts : Contracts p n to

-- there is nothing to rewrite at the node in its place
abbrev pub IsSettled : Position → Tree → Type 0
IsSettled p n = Redex p n → ⊥

-- no node of the tree is a redex in its place
abbrev pub HasNoRedex : Position → Tree → Type 0
HasNoRedex p n = Everywhere IsSettled p n

abbrev pub HaveNoRedex : (ℕ → Position) → Trees → Type 0
HaveNoRedex π ts = EverywhereIn IsSettled π ts

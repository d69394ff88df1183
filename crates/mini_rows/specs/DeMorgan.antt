-- Rows of expressions whose values nobody uses, of statements, of the heads of `for` and of parts
-- of sequences: each is a shape and what is written in its place, with the JavaScript before and
-- after.
use Rattle.std.specs.Prelude.{◌≡◌, ◌<◌, true, false}
use Rattle.mini_model.specs.declared.operator.LogicalOperator.{LogicalOperator}
use Rattle.mini_model.specs.declared.place.Position.{Position}
use Rattle.mini_model.specs.declared.place.Position.TheVariants.{Expr, Stmt}
use Rattle.mini_model.specs.Paths.{append}
use Rattle.mini_model.specs.Tree.{Tree, Trees, none, ◌▸◌, logical, expression_statement}
use Rattle.mini_model.specs.Position.{is_and_or, statement_expression_seat, left_operand_seat}
use Rattle.mini_model.specs.Terms.{turned}
use Rattle.mini_model.specs.Weight.{weight}
use Rattle.mini_node.specs.Kinds.{is_logical}
use Rattle.mini_rows.specs.Lists.{sequence, for_loop}
use Rattle.mini_rows.specs.Negations.{lightest}

-- the left side negated under the other operator
abbrev pub turned_logical : LogicalOperator → Tree → Tree → Tree
turned_logical o a b = logical (turned o) (lightest (left_operand_seat (turned o) statement_expression_seat) a) b

-- where an expression stands whose value nobody asks for: as a statement, as what a `for` begins
-- with, and as what it does after each turn (ECMA-262, "ExpressionStatement", "ForLoopEvaluation")
pub data VoidPlace : Type 0 where
  Alone : VoidPlace
  Begins : Tree → Tree → Tree → VoidPlace
  Turns : Tree → Tree → Tree → VoidPlace

abbrev pub void_of : VoidPlace → Tree → Tree
void_of Alone x = expression_statement x
void_of (Begins test update body) x = for_loop x test update body
void_of (Turns init test body) x = for_loop init test x body

-- an expression by itself, or as the last part of a sequence, whose value is that of the sequence
-- (ECMA-262, "Comma Operator")
abbrev pub ended : Trees → Tree → Tree
ended none x = x
ended (p ▸ ps) x = sequence (p ▸ append ps (x ▸ none))

-- 50: `!a && b;` becomes `a || b;`, and `!a || b;` `a && b;` (De Morgan): which side is evaluated
-- stays, and nobody asks for the value; `for (!a && b;;) c` becomes `for (a || b;;) c`, and
-- `a(), !b && c();` `a(), b || c();`. `a && (b && c);` is joined instead, which is lighter
pub record Row50 (n w : Tree) : Type 0 where
  pub place : VoidPlace
  pub before : Trees
  pub operator : LogicalOperator
  pub a : Tree
  pub b : Tree
  pub tells : is_and_or operator ≡ true
  pub apart : is_logical operator b ≡ false
  pub shape : n ≡ void_of place (ended before (logical operator a b))
  pub written : w ≡ void_of place (ended before (turned_logical operator a b))

-- 50, of a part of a sequence but the last: `a(), !b && c(), d()` becomes `a(), b || c(), d()`
pub record Row50Part (n w : Tree) : Type 0 where
  pub before : Trees
  pub operator : LogicalOperator
  pub a : Tree
  pub b : Tree
  pub next : Tree
  pub after : Trees
  pub tells : is_and_or operator ≡ true
  pub apart : is_logical operator b ≡ false
  pub shape : n ≡ sequence (append before (logical operator a b ▸ (next ▸ after)))
  pub written : w ≡ sequence (append before (turned_logical operator a b ▸ (next ▸ after)))

-- a row reads n as w at this place
abbrev pub DeMorganRow : Position → Tree → Tree → Type 0
DeMorganRow (Stmt q) n w = Row50 n w
DeMorganRow (Expr s) n w = Row50Part n w
DeMorganRow _ n w = ⊥

-- what it writes, where it weighs less
pub record DeMorganContracts (p : Position) (n w : Tree) : Type 0 where
  pub row : DeMorganRow p n w
  pub lighter : weight p w < weight p n

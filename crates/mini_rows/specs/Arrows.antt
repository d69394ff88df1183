-- The row of arrow functions: a shape and what is written in its place, with the JavaScript before
-- and after.
use Rattle.std.specs.Prelude.{◌≡◌, ◌<◌, ℕ, false, []}
use Rattle.mini_model.specs.declared.place.Position.{Position}
use Rattle.mini_model.specs.declared.place.Position.TheVariants.{Expr}
use Rattle.mini_model.specs.declared.shape.Shape.TheVariants as shape
use Rattle.mini_model.specs.Tree.{Tree, node, none, ◌▸◌, listed, is_absent}
use Rattle.mini_model.specs.Weight.{weight}
use Rattle.mini_rows.specs.Lists.{return_statement}

-- an arrow function without directives, of this number, with its parameters and its body
abbrev pub arrow : ℕ → Tree → Tree → Tree
arrow n parameters body = node (shape.ArrowFunctionExpression []) [] n (parameters ▸ (body ▸ none))

-- `{ return a; }`, as a body
abbrev pub returning : Tree → Tree
returning a = node shape.FunctionBody [] 0 (listed (return_statement a ▸ none) ▸ none)

-- 59: `() => { return a; }` becomes `() => a`
pub record Row59 (n w : Tree) : Type 0 where
  pub number : ℕ
  pub parameters : Tree
  pub value : Tree
  pub there : is_absent value ≡ false
  pub shape : n ≡ arrow number parameters (returning value)
  pub written : w ≡ arrow number parameters value

-- a row reads n as w at this place
abbrev pub ArrowRow : Position → Tree → Tree → Type 0
ArrowRow (Expr s) n w = Row59 n w
ArrowRow _ n w = ⊥

-- what it writes, where it weighs less
pub record ArrowContracts (p : Position) (n w : Tree) : Type 0 where
  pub row : ArrowRow p n w
  pub lighter : weight p w < weight p n

-- which is everywhere
abbrev pub ArrowsLighter : Type 0
ArrowsLighter = (p : Position) (n w : Tree) → ArrowRow p n w → weight p w < weight p n

-- The rules one after another make what the rows contract, and where all have nothing to do nothing
-- is to be rewritten.
use Rattle.std.specs.Prelude.{◌⊎◌, ◌<◌, ◌^◌, ℕ}
use Rattle.mini_model.specs.declared.place.Position.{Position}
use Rattle.mini_model.specs.declared.place.Position.TheVariants.{Expr, Stmt}
use Rattle.mini_model.specs.Tree.{Tree, Trees}
use Rattle.mini_model.specs.Weight.{weight}
use Rattle.mini_model.specs.Redex.{Row}
use Rattle.mini_model.specs.Rewriting.{Reaches, Everywhere, EverywhereIn}
use Rattle.mini_tree.specs.Rule.{Either, Both}
use Rattle.mini_rows.specs.Branches.{IfRow}
use Rattle.mini_rows.specs.Turns.{Row40Unequal, Row83Swapped}
use Rattle.mini_logic.specs.MinimizeUnaryExpression as unary
use Rattle.mini_logic.specs.MinimizeConditionalExpression as conditional
use Rattle.mini_logic.specs.MinimizeIfStatement as «if»

-- a row of one of the rules reads n as w at this place
abbrev pub LogicRow : Position → Tree → Tree → Type 0
LogicRow (Expr s) n w = Row (Expr s) n w ⊎ Row40Unequal n w
LogicRow (Stmt q) n w = Row (Stmt q) n w ⊎ (IfRow n w ⊎ Row83Swapped n w)
LogicRow p n w = Row p n w

-- what a row writes, where it weighs less
pub record LogicContracts (p : Position) (n w : Tree) : Type 0 where
  pub row : LogicRow p n w
  pub lighter : weight p w < weight p n

-- there is nothing to rewrite at the node in its place
abbrev pub IsSettled : Position → Tree → Type 0
IsSettled p n = (w : Tree) → LogicContracts p n w → ⊥

-- no node of the tree is to be rewritten in its place
abbrev pub HasNoRedex : Position → Tree → Type 0
HasNoRedex p n = Everywhere IsSettled p n

abbrev pub HaveNoRedex : (ℕ → Position) → Trees → Type 0
HaveNoRedex π ts = EverywhereIn IsSettled π ts

abbrev pub Gives : Position → Tree → Tree → Type 0
Gives = Either unary.Gives (Either conditional.Gives «if».Gives)

abbrev pub Rests : Position → Tree → Type 0
Rests = Both unary.Rests (Both conditional.Rests «if».Rests)

abbrev pub GivesContract : Type 0
GivesContract = (p : Position) (t u : Tree) → Gives p t u → LogicContracts p t u

abbrev pub ContractsAreGiven : Type 0
ContractsAreGiven = (p : Position) (t u : Tree) → LogicContracts p t u → Gives p t u

abbrev pub ReachesContract : Type 0
ReachesContract = (p : Position) (t u : Tree) → Reaches Gives p t u → Reaches LogicContracts p t u

abbrev pub RestsSettle : Type 0
RestsSettle = (p : Position) (t : Tree) → weight p t < 2 ^ 64 → Rests p t → IsSettled p t

abbrev pub RestsEverywhere : Type 0
RestsEverywhere = (p : Position) (t : Tree) → weight p t < 2 ^ 64 → Everywhere Rests p t → HasNoRedex p t

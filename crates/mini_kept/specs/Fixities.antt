-- Rewriting keeps what a write of each variable does.
use Rattle.std.specs.Prelude.{◌≡◌, Bool, false}
use Rattle.mini_model.specs.declared.place.Position.{Position}
use Rattle.mini_model.specs.declared.place.Position.TheVariants.{Elsewhere}
use Rattle.mini_model.specs.Tree.{Tree}
use Rattle.mini_model.specs.Redex.{Contracts}
use Rattle.mini_model.specs.Rewriting.{Reaches}
use Rattle.mini_laws.specs.Value.{Variable, VariableSet}
use Rattle.mini_laws.specs.Naming.{summary}
use Rattle.mini_laws.specs.Fixity.{fixed_by, fixed_in}

-- what a relation has to keep of the nodes that it replaces: what their declarations say, and what
-- a parent reads of them
pub record KeepsFixities (R : Position → Tree → Tree → Type 0) : Type 0 where
  pub reads : (p : Position) (n w : Tree) → R p n w → summary n ≡ summary w
  pub fixed : (p : Position) (n w : Tree) → R p n w → (x : Variable) → fixed_by n x ≡ fixed_by w x

-- the same but of these variables
pub record KeepsFixitiesBut (D : VariableSet) (R : Position → Tree → Tree → Type 0) : Type 0 where
  pub reads : (p : Position) (n w : Tree) → R p n w → summary n ≡ summary w
  pub fixed : (p : Position) (n w : Tree) → R p n w → (x : Variable) → D x ≡ false → fixed_by n x ≡ fixed_by w x

-- so does any number of steps, by sloppy code and by strict
abbrev pub ReachesKeepsFixities : (Position → Tree → Tree → Type 0) → Type 0
ReachesKeepsFixities R = KeepsFixities R → (p : Position) (t u : Tree) → Reaches R p t u → (strict : Bool) (x : Variable) → fixed_in strict t x ≡ fixed_in strict u x

-- the rows are such a relation
abbrev pub RowsKeepFixities : Type 0
RowsKeepFixities = KeepsFixities Contracts

abbrev pub ProgramKeepsFixities : Type 0
ProgramKeepsFixities = (t u : Tree) → Reaches Contracts Elsewhere t u → (strict : Bool) (x : Variable) → fixed_in strict t x ≡ fixed_in strict u x

-- Rewriting keeps what a tree means. What may be made of which tree at a place is a relation, and
-- each law holds of every relation whose instances mean the same where they stand and are read
-- alike by a parent.
use Rattle.std.specs.Prelude.{◌≡◌}
use Rattle.mini_model.specs.Tree.{Tree}
use Rattle.mini_model.specs.declared.place.Position.{Position}
use Rattle.mini_model.specs.declared.place.Position.TheVariants.{Elsewhere}
use Rattle.mini_model.specs.Redex.{Contracts}
use Rattle.mini_model.specs.Rewriting.{Step, Reaches}
use Rattle.mini_laws.specs.Value.{VariableSet, nothing}
use Rattle.mini_laws.specs.State.{Environment}
use Rattle.mini_laws.specs.Demand.{Demand}
use Rattle.mini_laws.specs.Naming.{summary}
use Rattle.mini_laws.specs.Fits.{Fits}
use Rattle.mini_laws.specs.Same.{Same}
use Rattle.mini_laws.specs.Body.{BodyKind, body_demand, SameBody, frame_of}
use Rattle.mini_laws.specs.Congruence.{Apart, Avoids, ReadAlike}
use Rattle.mini_laws.specs.Rows.{SameAt}

-- Of any relation, in an environment in which the variables D are dead

-- each instance means the same in every demand that fits its place, and is read alike
pub record KeepsMeaning (R : Position → Tree → Tree → Type 0) (e : Environment) (D : VariableSet) : Type 0 where
  pub same : (p : Position) (n w : Tree) → R p n w → (q : Demand) → Fits p q → Same e D nothing q n w
  pub reads : (p : Position) (n w : Tree) → R p n w → ReadAlike D e (summary n) (summary w)

-- so one step at any place means the same, where the tree that it gives mentions no dead variable
abbrev pub StepKeeps : (Position → Tree → Tree → Type 0) → Type 0
StepKeeps R =
    (e : Environment) (D : VariableSet) → Apart e D → KeepsMeaning R e D → (p : Position) (n w : Tree) → Step R p n w → Avoids D w → (q : Demand) → Fits p q → Same e D nothing q n w

-- and is read alike
abbrev pub StepReads : (Position → Tree → Tree → Type 0) → Type 0
StepReads R = (e : Environment) (D : VariableSet) → KeepsMeaning R e D → (p : Position) (n w : Tree) → Step R p n w → ReadAlike D e (summary n) (summary w)

-- Of any relation, in every environment, where no variable is dead

-- each instance means the same where it stands, and is read alike
pub record MeansSame (R : Position → Tree → Tree → Type 0) : Type 0 where
  pub same : (p : Position) (n w : Tree) → R p n w → SameAt p n w
  pub reads : (p : Position) (n w : Tree) → R p n w → summary n ≡ summary w

-- so do one step at any place
abbrev pub AnyStepSame : (Position → Tree → Tree → Type 0) → Type 0
AnyStepSame R = MeansSame R → (p : Position) (n w : Tree) → Step R p n w → SameAt p n w

-- and any number of them
abbrev pub AnyReachesSame : (Position → Tree → Tree → Type 0) → Type 0
AnyReachesSame R = MeansSame R → (p : Position) (n w : Tree) → Reaches R p n w → SameAt p n w

-- a body runs as before, in any environment and whichever names its start has
abbrev pub AnyBodySame : (Position → Tree → Tree → Type 0) → Type 0
AnyBodySame R =
    MeansSame R → (p : Position) (n w : Tree) → Reaches R p n w → (e : Environment) (k : BodyKind) → Fits p (body_demand k) → (X : VariableSet) → SameBody e k X n w

-- and has its frame, if none of its instances is of a whole program
abbrev pub AnyFrameKept : (Position → Tree → Tree → Type 0) → Type 0
AnyFrameKept R = ((n w : Tree) → R Elsewhere n w → frame_of n ≡ frame_of w) → (n w : Tree) → Reaches R Elsewhere n w → frame_of n ≡ frame_of w

-- Of the rows

-- one rewrite, at any place in the tree
abbrev pub StepSame : Type 0
StepSame = (p : Position) (n w : Tree) → Step Contracts p n w → SameAt p n w

-- and any number of them
abbrev pub ReachesSame : Type 0
ReachesSame = (p : Position) (n w : Tree) → Reaches Contracts p n w → SameAt p n w

-- a body runs as before, in any environment and whichever names its start has
abbrev pub ProgramSame : Type 0
ProgramSame = (n w : Tree) → Reaches Contracts Elsewhere n w → (e : Environment) (k : BodyKind) (X : VariableSet) → SameBody e k X n w

-- and has its frame
abbrev pub FrameKept : Type 0
FrameKept = (n w : Tree) → Reaches Contracts Elsewhere n w → frame_of n ≡ frame_of w

-- What the rows of lists of statements keep.
use Rattle.std.specs.Prelude.{◌≡◌, ◌⊎◌, Bool, true, false, None}
use Rattle.mini_model.specs.declared.place.Position.TheVariants.{StatementList}
use Rattle.mini_model.specs.declared.shape.Shape.{Shape}
use Rattle.mini_model.specs.Tree.{Tree, Trees}
use Rattle.mini_laws.specs.State.{State, ok, Environment}
use Rattle.mini_laws.specs.Demand.{Stat, LabelSet}
use Rattle.mini_laws.specs.Step.{means}
use Rattle.mini_laws.specs.Rewritten.{MeansSame}
use Rattle.mini_laws.specs.Weights.{Lightens}
use Rattle.mini_kept.specs.Lawful.{Lawful}
use Rattle.mini_kept.specs.Loosely.{LawfulLoosely}
use Rattle.mini_rows.specs.Switches.{Switches}
use Rattle.mini_rows.specs.Arranged.{WhereFixed, KeptAt, NeighboursRow}
use Rattle.mini_rows.specs.Lists.{Head, Switch, For, Row67, Row67Absent, Row68, InList, ListContracts, is_terminated}

-- the meaning
abbrev pub ListsMeanSame : Type 0
ListsMeanSame = (o : Switches) → MeansSame (ListContracts o)

-- and they make the whole lighter, wherever in it they are used
abbrev pub ListsLighten : Type 0
ListsLighten = (o : Switches) → Lightens (ListContracts o)

-- A statement whose head an expression is joined to opens a scope, in which what the head declares
-- is seen
abbrev pub opens_scope : Head → Bool
opens_scope (Switch cases) = true
opens_scope (For test update body) = true
opens_scope h = false

-- an expression goes into another one
pub record PlainHead (a b : Trees) : Type 0 where
  pub row : Row67 a b
  pub plain : opens_scope row.head ≡ false

-- the rows of lists but those of such statements and of declarations
abbrev pub PlainRow : Trees → Trees → Type 0
PlainRow a b = NeighboursRow a b ⊎ PlainHead a b

-- and what these write keeps all that a program has to keep, but for its shape
abbrev pub PlainListsKept : Type 0
PlainListsKept = (n w : Tree) → InList PlainRow n w → KeptAt StatementList n w

-- and of a list in which two declarations of one kind become one
abbrev pub DeclarationsKept : Type 0
DeclarationsKept = (n w : Tree) → InList Row68 n w → KeptAt StatementList n w

-- an expression goes into the head of a statement that opens a scope
pub record OpeningHead (a b : Trees) : Type 0 where
  pub row : Row67 a b
  pub opens : opens_scope row.head ≡ true

-- where an expression stands already, or none
abbrev pub OpeningRow : Trees → Trees → Type 0
OpeningRow a b = OpeningHead a b ⊎ Row67Absent a b

-- and of such a list
abbrev pub OpeningListsKept : Type 0
OpeningListsKept = (n w : Tree) → InList OpeningRow n w → KeptAt StatementList n w

-- the rows of lists are lawful, whatever the options let happen, where what a write of each
-- variable does stays
abbrev pub ListsLawful : Type 0
ListsLawful = (o : Switches) → Lawful (WhereFixed (ListContracts o))

-- and loosely, where constants go that are declared in what goes
abbrev pub ListsLoose : Type 0
ListsLoose = (o : Switches) (K : Shape → Bool) → LawfulLoosely K (ListContracts o)

-- ---- ends

-- no run of it ends normally
abbrev pub NeverEnds : Tree → Type 0
NeverEnds t = (e : Environment) (r : LabelSet) (s z : State) → means e t (Stat None) r s ≡ ok tt z → ⊥

-- so it is of a statement that is terminated, and of a list of them
abbrev pub TerminatedNeverEnds : Type 0
TerminatedNeverEnds = (t : Tree) → is_terminated t ≡ true → NeverEnds t

-- A body doesn't depend on the bodies that are nested in it, but by their numbers.
use Rattle.std.specs.Prelude.{◌≡◌}
use Rattle.mini_model.specs.Tree.{Tree}
use Rattle.mini_laws.specs.Value.{VariableSet}
use Rattle.mini_laws.specs.State.{State, Environment}
use Rattle.mini_laws.specs.Demand.{Demand, Request}
use Rattle.mini_laws.specs.Naming.{summary}
use Rattle.mini_laws.specs.Step.{means}
use Rattle.mini_laws.specs.Body.{BodyKind, SameBody}
use Rattle.mini_laws.specs.Cut.{cut}

-- a tree does what it does without them, and is read by its parent alike
abbrev pub CutMeans : Type 0
CutMeans = (e : Environment) (n : Tree) (q : Demand) (r : Request q) (s : State) → means e (cut n) q r s ≡ means e n q r s

abbrev pub CutReads : Type 0
CutReads = (n : Tree) → summary (cut n) ≡ summary n

-- so two bodies that differ in the bodies in them alone are the same
abbrev pub NestedApart : Type 0
NestedApart = (e : Environment) (k : BodyKind) (X : VariableSet) (n w : Tree) → cut n ≡ cut w → SameBody e k X n w

-- States of which one is the other, but that some variables have no value in it, and trees that go
-- together over them.
use Rattle.std.specs.Prelude.{◌≡◌, ◌⊎◌, true}
use Rattle.mini_model.specs.Tree.{Tree}
use Rattle.mini_laws.specs.Value.{Variable, VariableSet, Uninitialised}
use Rattle.mini_laws.specs.State.{State, Environment}
use Rattle.mini_laws.specs.Demand.{Demand, Request}
use Rattle.mini_laws.specs.Step.{means}
use Rattle.mini_laws.specs.Same.{Goes, Initialised}
use Rattle.mini_laws.specs.Congruence.{Apart}

-- a state is another, but that variables of V may have no value in it: a scope makes its names
-- uninitialised where it is entered and where it is left
pub record Fades (V : VariableSet) (s t : State) : Type 0 where
  pub vars : (x : Variable) → (s.vars x ≡ t.vars x) ⊎ ((V x ≡ true) × (s.vars x ≡ Uninitialised))
  pub self : s.self ≡ t.self
  pub answers : s.answers ≡ t.answers
  pub turns : s.turns ≡ t.turns
  pub events : s.events ≡ t.events

-- from such states one node ends outside the model, or the other ends as it does, again in such
-- states
abbrev pub Fading : VariableSet → Environment → Demand → Tree → Tree → Type 0
Fading V e q n w = (r : Request q) (s t : State) → Fades V s t → Goes true (λ a. Fades V) (Fades V) (Fades V) (means e n q r s) (means e w q r t)

-- so from those in which X are initialised
abbrev pub FadingFrom : VariableSet → VariableSet → Environment → Demand → Tree → Tree → Type 0
FadingFrom V X e q n w = (r : Request q) (s t : State) → Fades V s t → Initialised X s → Goes true (λ a. Fades V) (Fades V) (Fades V) (means e n q r s) (means e w q r t)

-- each tree does so of itself, in any environment in which no event shows those variables: what
-- names one of them reads it, writes it or gives it its value
abbrev pub FadesItself : Type 0
FadesItself = (V : VariableSet) (e : Environment) → Apart e V → (q : Demand) (n : Tree) → Fading V e q n n

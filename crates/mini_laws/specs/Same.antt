-- When two trees mean the same where this is asked of them: on the events, the answers and turns
-- that are left, the reply or the end, and all variables but those that are dead, from each state
-- in which some variables are initialised.
use Rattle.std.specs.Prelude.{◌≡◌, Bool, true, false}
use Rattle.mini_model.specs.Tree.{Tree}
use Rattle.mini_laws.specs.Value.{Variable, VariableSet, Slot, Holds, Missing, Uninitialised}
use Rattle.mini_laws.specs.State.{State, Completion, ok, stop, halt, out, Environment}
use Rattle.mini_laws.specs.Demand.{Demand, Request}
use Rattle.mini_laws.specs.Step.{means}

abbrev pub Relation : Type 1
Relation = State → State → Type 0

abbrev pub Weak : Bool → Type 0
Weak true = Unit {0}
Weak false = ⊥

-- completions that go together: a relation after a reply, after an abrupt end, and where a run is
-- cut off. Where the first is outside the model, a weak one lets the second be anything
unfoldable pub Goes : {A : Type 0} → Bool → (A → Relation) → Relation → Relation → Completion A → Completion A → Type 0
Goes w N S H (ok a s) (ok b t) = (a ≡ b) × N a s t
Goes w N S H (stop e s) (stop f t) = (e ≡ f) × S s t
Goes w N S H (halt e s) (halt f t) = (e ≡ f) × H s t
Goes w N S H out out = Unit {0}
Goes w N S H out y = Weak w
Goes w N S H x y = ⊥

abbrev pub Filled : Slot → Type 0
Filled (Holds v) = Unit {0}
Filled Missing = ⊥
Filled Uninitialised = ⊥

-- these variables are initialised
unfoldable pub Initialised : VariableSet → State → Type 0
Initialised k s = (x : Variable) → k x ≡ true → Filled (s.vars x)

-- states that agree but on the dead variables
pub record Agree (D : VariableSet) (s t : State) : Type 0 where
  pub vars : (x : Variable) → D x ≡ false → s.vars x ≡ t.vars x
  pub self : s.self ≡ t.self
  pub answers : s.answers ≡ t.answers
  pub turns : s.turns ≡ t.turns
  pub events : s.events ≡ t.events

-- where X are initialised and D are dead
pub record Same (e : Environment) (D X : VariableSet) (q : Demand) (n w : Tree) : Type 0 where
  pub by : (r : Request q) (s : State) → Initialised X s → Goes true (λ a. Agree D) (Agree D) (Agree D) (means e n q r s) (means e w q r s)

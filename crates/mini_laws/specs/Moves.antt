-- An expression that moves past another: one that has the same value before that is evaluated and
-- after.
use Rattle.std.specs.Prelude.{◌≡◌, ℕ, List, ℤ, false}
use Rattle.mini_model.specs.Tree.{Tree}
use Rattle.mini_laws.specs.Value.{Value, Declared, Holds}
use Rattle.mini_laws.specs.State.{State, Completion, ok, stop, either, Environment}
use Rattle.mini_laws.specs.Demand.{Val, As}
use Rattle.mini_laws.specs.Step.{means}
use Rattle.mini_laws.specs.Steady.{Spares}
use Rattle.mini_laws.specs.Substitution.{use_of, number}

-- from this state, without an effect
pub record Passes (e : Environment) (p r : Tree) (s : State) : Type 0 where
  pub value : Value
  pub before : means e p (As Val) tt s ≡ ok value s
  pub after : (b : Value) (z : State) → means e r (As Val) tt s ≡ ok b z → means e p (As Val) tt z ≡ ok value z

-- whatever is made of the two values: p first and then r, or r first and then p
abbrev pub Commutes : Type 0
Commutes =
    (e : Environment) (p r : Tree) (s : State) → Passes e p r s → (f : Value → Value → State → Completion Value) →
    either (means e p (As Val) tt s) (λ a y. either (means e r (As Val) tt y) (λ b z. f a b z) (λ x z. stop x z)) (λ x z. stop x z)
    ≡ either (means e r (As Val) tt s) (λ b y. either (means e p (As Val) tt y) (λ a z. f a b z) (λ x z. stop x z)) (λ x z. stop x z)

-- a number passes everything
abbrev pub NumberPasses : Type 0
NumberPasses = (e : Environment) (k : ℤ) (r : Tree) (s : State) → Passes e (number k) r s

-- and a name that is initialised what doesn't write it, if no answer may
abbrev pub SteadyPasses : Type 0
SteadyPasses =
    (e : Environment) (spelling : List ℕ) (x : ℕ) (r : Tree) (s : State) (v : Value) → e.foreign (Declared x) ≡ false → Spares (Declared x) (As Val) r → s.vars (Declared x) ≡ Holds v → Passes e (use_of spelling x) r s

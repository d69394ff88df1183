-- What it is that a term is sound.
use Rattle.std.specs.Prelude.{◌≡◌, Bool, true, false, Option, Some, None}
use Rattle.mini_model.specs.Tree.{Tree}
use Rattle.mini_laws.specs.State.{State, Completion, ok, stop, halt, out, Environment}
use Rattle.mini_laws.specs.Value.{Value, truth}
use Rattle.mini_laws.specs.Demand.{Want, Val, Test, As}
use Rattle.mini_laws.specs.Step.{means}
use Rattle.mini_terms.specs.Kind.{kind, OfKind}
use Rattle.mini_terms.specs.Effects.{ef}
use Rattle.mini_terms.specs.Const.{const, Agrees}
use Rattle.mini_terms.specs.Truth.{truth_of}
use Rattle.mini_terms.specs.Plain.{lit}

-- of the reply, wherever there is one
unfoldable pub Gives : {A : Type 0} → (A → Type 0) → Completion A → Type 0
Gives P (ok a s) = P a
Gives P (stop x s) = Unit {0}
Gives P (halt x s) = Unit {0}
Gives P out = Unit {0}

-- the value has the kind
abbrev pub KindSound : Type 0
KindSound = (n : Tree) (e : Environment) (s : State) → Gives (OfKind (kind n)) (means e n (As Val) tt s)

-- replies and leaves the state as it was, with the events, the answers, the turns and all
-- variables; or leaves the model
unfoldable pub Quiet : {A : Type 0} → State → Completion A → Type 0
Quiet s (ok a t) = t ≡ s
Quiet s (stop x t) = ⊥
Quiet s (halt x t) = ⊥
Quiet s out = Unit {0}

abbrev pub EffectFreeSound : Type 0
EffectFreeSound = (n : Tree) (e : Environment) (asked : Bool) → (asked ≡ false → e.asks_this ≡ false) → ef asked n ≡ true → (w : Want) (s : State) → Quiet s (means e n (As w) tt s)

-- the value is the constant
abbrev pub ConstSound : Type 0
ConstSound = (n : Tree) (e : Environment) (s : State) → Gives (Agrees (const n)) (means e n (As Val) tt s)

-- the truth that a test gets is the Truth
abbrev pub TruthSound : Type 0
TruthSound = (n : Tree) (e : Environment) (s : State) → Gives (Agrees (truth_of n)) (means e n (As Test) tt s)

-- and so is that of the value
abbrev pub TruthOfValue : Type 0
TruthOfValue = (n : Tree) (e : Environment) (s : State) → Gives (λ v. Agrees (truth_of n) (truth v)) (means e n (As Val) tt s)

-- the literal of a value has that value
abbrev pub LitOf : Value → Option Tree → Type 0
LitOf v (Some n) = (e : Environment) (s : State) → means e n (As Val) tt s ≡ ok v s
LitOf v None = Unit {0}

abbrev pub LitSound : Type 0
LitSound = (v : Value) → LitOf v (lit v)

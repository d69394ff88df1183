-- That what makes a number of 32 bits gives one.
use Rattle.std.specs.Prelude.{◌≡◌, true}
use Rattle.mini_model.specs.Tree.{Tree}
use Rattle.mini_laws.specs.State.{State, Environment}
use Rattle.mini_laws.specs.Value.{Value, Number}
use Rattle.mini_laws.specs.Demand.{Val, As}
use Rattle.mini_laws.specs.Step.{means}
use Rattle.mini_terms.specs.Exact.{is_32, is_int32_or_uint32}
use Rattle.mini_terms.specs.Sound.{Gives}

-- a whole number from -2^31 to 2^32 - 1
abbrev pub Is32 : Value → Type 0
Is32 (Number n) = is_32 n ≡ true
Is32 v = ⊥

-- the value of what makes a number of 32 bits is one, wherever the run stays in the model
abbrev pub Int32Sound : Type 0
Int32Sound = (n : Tree) (e : Environment) (s : State) → is_int32_or_uint32 n ≡ true → Gives Is32 (means e n (As Val) tt s)

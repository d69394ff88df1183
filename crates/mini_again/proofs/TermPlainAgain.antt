-- The literal of a value has neither a symbol nor a number.
use Rattle.mini_again.specs.Again.{Renaming, option_again}
use Rattle.mini_laws.specs.Value.{Boolean, Null, Number, String, Undefined, Value}
use Rattle.mini_terms.specs.Plain.{lit}
use Rattle.std.specs.Prelude.{false, refl, true, ◌≡◌}

pub lit_again : (ρ : Renaming) (v : Value) → option_again ρ (lit v) ≡ lit v
lit_again ρ Undefined = refl
lit_again ρ Null = refl
lit_again ρ (Boolean true) = refl
lit_again ρ (Boolean false) = refl
lit_again ρ (Number n) = refl
lit_again ρ (String s) = refl
lit_again ρ v = refl

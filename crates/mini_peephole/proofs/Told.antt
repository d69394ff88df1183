-- An error that is no want of memory tells a defect.
use Rattle.std.proofs.Common.{◌≡◌, refl}
use Rattle.std.specs.Prelude.{Option, Some, None, IfSome}
use Rattle.serde_json.specs.Data.{Data}
use Rattle.mini_tree.specs.declared.options.CompressOptions.{CompressOptions}
use Rattle.mini_model.specs.Faults.{Fault, fault_of}
use Rattle.mini_model.specs.declared.error.MinifyError.{MinifyError}
use Rattle.mini_peephole.specs.Minified.{HasDefect, IsRefusal}

some_of : (o : Option Fault) (P : Fault → Type 0) → IfSome o P → (o ≡ None → ⊥) → (f : Fault) × (o ≡ Some f) × P f
some_of None P holds some = absurd (some refl)
some_of (Some f) P holds some = (f, refl, holds)

pub defect_of : (d : Data) (o : CompressOptions) (e : MinifyError) → IsRefusal d o e → (fault_of e ≡ None → ⊥) → (f : Fault) × (fault_of e ≡ Some f) × HasDefect d o f
defect_of d o e refusal some = some_of (fault_of e) (HasDefect d o) refusal some

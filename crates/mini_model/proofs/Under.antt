-- Errors below a step.
use Rattle.std.proofs.Common.{◌≡◌, ℕ, List, arith}
use Rattle.std.specs.Prelude.{Option, Some, None, Result, Err, IfSome}
use Rattle.mini_model.specs.declared.error.MinifyError.{MinifyError}
use Rattle.mini_model.specs.Faults.{Fault, fault_of, IsUnder, under, Fails}

blamed_under : {A : Type 0} (step : List ℕ) (old new : Option Fault) (read : Result A Fault) → IsUnder step old new → IfSome old (λ f. read ≡ Err f) → IfSome new (λ f. under step read ≡ Err f)
blamed_under step old None read moved h = tt
blamed_under step None (Some f) read moved h = absurd (cc moved)
blamed_under {A} step (Some g) (Some f) read moved h = rw h (grind (arith, moved))

pub fails_under : {A : Type 0} (e e' : MinifyError) (step : List ℕ) (read : Result A Fault) → IsUnder step (fault_of e) (fault_of e') → Fails e read → Fails e' (under step read)
fails_under e e' step read moved h = blamed_under step (fault_of e) (fault_of e') read moved h

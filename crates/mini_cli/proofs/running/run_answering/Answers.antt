use Rattle.std.proofs.Common.{◌≡◌, refl, ap}
use Rattle.std.specs.Prelude.{Err, IsErrOf}
use Rattle.mini_cli.proofs.Delivered.{read_due}
use Rattle.mini_cli.proofs.Valid.{read_answered, not_too_long}
use Rattle.mini_cli.proofs.running.run_answering.Goals as goal

is_err : {T E : Type 0} (e x : E) → e ≡ x → IsErrOf {T = T} {E = E} (Err e) x
is_err e x is = ap (λ e. Err e) is

pub returns-in-Ok-clause-due : goal.returns-in-Ok-clause-due
returns-in-Ok-clause-due g c = read_due _ _ _ _ _ _ c.in-Ok.ensures.all c.deliver.ensures

pub returns-in-Ok-clause-answered : goal.returns-in-Ok-clause-answered
returns-in-Ok-clause-answered g c = read_answered _ _ _ _ _ (returns-in-Ok-clause-due g c)

pub returns-in-Err-Memory-clause-due : goal.returns-in-Err-Memory-clause-due
returns-in-Err-Memory-clause-due g c = (record { bytes = refl; faults = refl }, record { bytes = refl; faults = refl })

pub returns-in-Err-Fault-clause-due : goal.returns-in-Err-Fault-clause-due
returns-in-Err-Fault-clause-due g c = (c.in-Err-Fault.ensures.fault (is_err _ _ c.in-Err-Fault.field-0-is), record { bytes = refl; faults = refl }, record { bytes = refl; faults = refl })

pub returns-in-Err-Fault-clause-answered : goal.returns-in-Err-Fault-clause-answered
returns-in-Err-Fault-clause-answered g c valid = c.in-Err-Fault.ensures.fault (is_err _ _ c.in-Err-Fault.field-0-is)

pub returns-in-Err-TooLong-clause-due : goal.returns-in-Err-TooLong-clause-due
returns-in-Err-TooLong-clause-due g c = (c.in-Err-TooLong.ensures.long (is_err _ _ c.in-Err-TooLong.field-0-is), record { bytes = refl; faults = refl }, record { bytes = refl; faults = refl })

pub returns-in-Err-TooLong-clause-answered : goal.returns-in-Err-TooLong-clause-answered
returns-in-Err-TooLong-clause-answered g c valid = not_too_long _ _ (c.in-Err-TooLong.ensures.long (is_err _ _ c.in-Err-TooLong.field-0-is)) valid

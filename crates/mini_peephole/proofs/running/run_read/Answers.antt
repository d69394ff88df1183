use Rattle.std.proofs.Common.{◌≡◌, refl, ap}
use Rattle.std.specs.Prelude.{Err, IsErrOf}
use Rattle.mini_peephole.proofs.Due.{read_due}
use Rattle.mini_peephole.proofs.running.run_read.Goals as goal

is_err : {T E : Type 0} (e x : E) → e ≡ x → IsErrOf {T = T} {E = E} (Err e) x
is_err e x is = ap (λ e. Err e) is

pub returns-in-Ok : goal.returns-in-Ok
returns-in-Ok g c words name = read_due _ _ words _ _ _ _ _ name c.in-Ok.ensures.all c.deliver.ensures

pub returns-in-Err-Memory : goal.returns-in-Err-Memory
returns-in-Err-Memory g c words name = ((c.args.options.now, name), record { bytes = refl; faults = refl }, record { bytes = refl; faults = refl })

pub returns-in-Err-Fault : goal.returns-in-Err-Fault
returns-in-Err-Fault g c words name = ((c.args.options.now, name), c.in-Err-Fault.ensures.fault (is_err _ _ c.in-Err-Fault.field-0-is), record { bytes = refl; faults = refl }, record { bytes = refl; faults = refl })

pub returns-in-Err-TooLong : goal.returns-in-Err-TooLong
returns-in-Err-TooLong g c words name = ((c.args.options.now, name), c.in-Err-TooLong.ensures.long (is_err _ _ c.in-Err-TooLong.field-0-is), record { bytes = refl; faults = refl }, record { bytes = refl; faults = refl })

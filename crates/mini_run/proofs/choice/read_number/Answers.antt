use Rattle.std.proofs.Common.{arith}
use Rattle.std.proofs.lemmas.Bool.Decides.{nat_tests}
use Rattle.std.proofs.lemmas.Grind.{common_steps}
use Rattle.mini_run.proofs.Spelled.{none-empty, none-plus, none-leading_zero, none-unparsed, just_zero, parsed}
use Rattle.mini_run.proofs.choice.read_number.Goals as goal

pub returns-then-is_empty : goal.returns-then-is_empty
returns-then-is_empty c = none-empty c.args.digits.now (grind (arith, nat_tests, common_steps))

pub returns-then-first-eq43 : goal.returns-then-first-eq43
returns-then-first-eq43 c = none-plus c.args.digits.now (rw (← c.as_bytes-bytes.ensures.value) (omega arith))

pub returns-then-bytes-eq1 : goal.returns-then-bytes-eq1
returns-then-bytes-eq1 c = just_zero c.args.digits.now (rw (← c.as_bytes-bytes.ensures.value) (omega arith)) (rw (← c.as_bytes-bytes.ensures.value) (omega arith))

pub returns-else-bytes-eq1 : goal.returns-else-bytes-eq1
returns-else-bytes-eq1 c = none-leading_zero c.args.digits.now (rw (← c.as_bytes-bytes.ensures.value) (grind (arith, nat_tests, common_steps))) (rw (← c.as_bytes-bytes.ensures.value) (omega arith))

pub returns-in-Ok : goal.returns-in-Ok
returns-in-Ok c = parsed c.args.digits.now c.parse.result c.in-Ok.number c.in-Ok.is c.parse.ensures.value.0 (rw (← c.as_bytes-bytes.ensures.value) (omega arith)) (rw (← c.as_bytes-bytes.ensures.value) (omega arith))

pub returns-in-Err : goal.returns-in-Err
returns-in-Err c = none-unparsed c.args.digits.now c.parse.result c.in-Err.field-0 c.in-Err.is c.parse.ensures.value.0

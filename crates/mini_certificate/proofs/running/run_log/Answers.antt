use Rattle.std.proofs.Common.{refl}
use Rattle.mini_cli.proofs.Delivered.{due_of}
use Rattle.mini_certificate.specs.Checked.{NameOptions, log_task}
use Rattle.mini_certificate.proofs.Words.{valid_named}
use Rattle.mini_certificate.proofs.running.run_log.Goals as goal

pub returns-in-Some-clause-due : goal.returns-in-Some-clause-due
returns-in-Some-clause-due g c = due_of NameOptions log_task _ _ c.in-Some.options _ _ _ c.in-Some.ensures c.run_answering.ensures.due

pub returns-in-Some-clause-answered : goal.returns-in-Some-clause-answered
returns-in-Some-clause-answered g c = λ o name valid. c.run_answering.ensures.answered (valid_named log_task _ o c.in-Some.options _ name c.in-Some.ensures valid)

pub returns-in-None-clause-due : goal.returns-in-None-clause-due
returns-in-None-clause-due g c = (c.in-None.ensures, record { bytes = refl; faults = refl }, record { bytes = refl; faults = refl }, record { bytes = refl; faults = refl })

pub returns-in-None-clause-answered : goal.returns-in-None-clause-answered
returns-in-None-clause-answered g c = λ o name valid. c.in-None.ensures o name

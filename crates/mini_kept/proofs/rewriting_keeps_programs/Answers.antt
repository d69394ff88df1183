use Rattle.mini_kept.proofs.Steps.{step_fits}
use Rattle.mini_kept.proofs.Programs.{reaches_well_shaped}
use Rattle.mini_kept.proofs.rewriting_keeps_programs.Goals as goal

pub returns-clause-step : goal.returns-clause-step
returns-clause-step c p t u s = step_fits s

pub returns-clause-program : goal.returns-clause-program
returns-clause-program c t u r = reaches_well_shaped r

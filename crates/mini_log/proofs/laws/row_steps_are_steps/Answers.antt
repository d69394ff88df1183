use Rattle.mini_log.proofs.Logs.{a_step}
use Rattle.mini_log.proofs.Weights.{step_lighter}
use Rattle.mini_log.proofs.laws.row_steps_are_steps.Goals as goal

pub returns-clause-step : goal.returns-clause-step
returns-clause-step c = a_step

pub returns-clause-lighter : goal.returns-clause-lighter
returns-clause-lighter c = step_lighter

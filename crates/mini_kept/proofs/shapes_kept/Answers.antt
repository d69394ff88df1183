use Rattle.mini_kept.proofs.Steps.{any_step_fits}
use Rattle.mini_kept.proofs.Programs.{any_reaches_well_shaped}
use Rattle.mini_kept.proofs.shapes_kept.Goals as goal

pub returns-clause-step : goal.returns-clause-step
returns-clause-step g c l shapes p t u s = any_step_fits g.R.Rewrites.gives l shapes s

pub returns-clause-program : goal.returns-clause-program
returns-clause-program g c l shapes t u r = any_reaches_well_shaped g.R.Rewrites.gives l shapes r

use Rattle.mini_kept.proofs.BodySteps.{step_keeps_bodies, reaches_keeps_bodies}
use Rattle.mini_kept.proofs.bodies_kept.Goals as goal

pub returns-clause-step : goal.returns-clause-step
returns-clause-step g c = step_keeps_bodies g.R.Rewrites.gives

pub returns-clause-reaches : goal.returns-clause-reaches
returns-clause-reaches g c = reaches_keeps_bodies g.R.Rewrites.gives

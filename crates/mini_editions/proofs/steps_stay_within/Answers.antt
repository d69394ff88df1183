use Rattle.mini_editions.proofs.Steps.{steps_stay_within}
use Rattle.mini_editions.proofs.steps_stay_within.Goals as goal

pub returns : goal.returns
returns g c = steps_stay_within g.R.Rewrites.gives

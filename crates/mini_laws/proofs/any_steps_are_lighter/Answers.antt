use Rattle.mini_laws.proofs.Lighter as lemma
use Rattle.mini_laws.proofs.any_steps_are_lighter.Goals as goal

pub returns-clause-step : goal.returns-clause-step
returns-clause-step g c = lemma.any_step_lighter g.R.Rewrites.gives

pub returns-clause-reaches : goal.returns-clause-reaches
returns-clause-reaches g c = lemma.any_reaches_lighter g.R.Rewrites.gives

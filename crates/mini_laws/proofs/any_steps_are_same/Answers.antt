use Rattle.mini_laws.proofs.Rewritten as lemma
use Rattle.mini_laws.proofs.any_steps_are_same.Goals as goal

pub returns-clause-keeps : goal.returns-clause-keeps
returns-clause-keeps g c = lemma.step_keeps g.R.Rewrites.gives

pub returns-clause-reads : goal.returns-clause-reads
returns-clause-reads g c = lemma.steps_read g.R.Rewrites.gives

pub returns-clause-step : goal.returns-clause-step
returns-clause-step g c = lemma.any_step_same g.R.Rewrites.gives

pub returns-clause-reaches : goal.returns-clause-reaches
returns-clause-reaches g c = lemma.any_reaches_same g.R.Rewrites.gives

pub returns-clause-body : goal.returns-clause-body
returns-clause-body g c = lemma.any_body_same g.R.Rewrites.gives

pub returns-clause-frame : goal.returns-clause-frame
returns-clause-frame g c = lemma.any_frame_kept g.R.Rewrites.gives

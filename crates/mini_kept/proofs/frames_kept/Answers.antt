use Rattle.mini_kept.proofs.FrameSteps.{step_keeps_frames, reaches_keeps_frames}
use Rattle.mini_kept.proofs.frames_kept.Goals as goal

pub returns-clause-step : goal.returns-clause-step
returns-clause-step g c = step_keeps_frames g.R.Rewrites.gives

pub returns-clause-reaches : goal.returns-clause-reaches
returns-clause-reaches g c = reaches_keeps_frames g.R.Rewrites.gives

use Rattle.mini_kept.proofs.Loosely.{steadily_keeps, loose_is_steady}
use Rattle.mini_kept.proofs.steady_rewriting_keeps.Goals as goal

pub returns-clause-keeps : goal.returns-clause-keeps
returns-clause-keeps g c = steadily_keeps g.R.Rewrites.gives

pub returns-clause-loose : goal.returns-clause-loose
returns-clause-loose g c = loose_is_steady g.R.Rewrites.gives

use Rattle.mini_kept.proofs.Rooted.{rooted_keeps, steady_is_rooted}
use Rattle.mini_kept.proofs.rooted_rewriting_keeps.Goals as goal

pub returns-clause-keeps : goal.returns-clause-keeps
returns-clause-keeps g c = rooted_keeps g.R.Rewrites.gives

pub returns-clause-steady : goal.returns-clause-steady
returns-clause-steady g c = steady_is_rooted g.R.Rewrites.gives

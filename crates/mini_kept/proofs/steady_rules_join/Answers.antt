use Rattle.mini_kept.proofs.Loosely.{steady_join, steady_narrowed, steady_wider}
use Rattle.mini_kept.proofs.steady_rules_join.Goals as goal

pub returns-clause-joined : goal.returns-clause-joined
returns-clause-joined g c = steady_join g.R.Rewrites.gives g.S.Rewrites.gives

pub returns-clause-narrowed : goal.returns-clause-narrowed
returns-clause-narrowed g c = steady_narrowed g.R.Rewrites.gives g.S.Rewrites.gives

pub returns-clause-wider : goal.returns-clause-wider
returns-clause-wider g c = steady_wider g.R.Rewrites.gives

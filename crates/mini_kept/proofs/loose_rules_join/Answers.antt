use Rattle.mini_kept.proofs.Loosely.{loose_join, loose_narrowed, loose_wider}
use Rattle.mini_kept.proofs.loose_rules_join.Goals as goal

pub returns-clause-joined : goal.returns-clause-joined
returns-clause-joined g c = loose_join g.R.Rewrites.gives g.S.Rewrites.gives

pub returns-clause-narrowed : goal.returns-clause-narrowed
returns-clause-narrowed g c = loose_narrowed g.R.Rewrites.gives g.S.Rewrites.gives

pub returns-clause-wider : goal.returns-clause-wider
returns-clause-wider g c = loose_wider g.R.Rewrites.gives

use Rattle.mini_kept.proofs.Rooted.{rooted_join, rooted_narrowed, rooted_wider}
use Rattle.mini_kept.proofs.rooted_rules_join.Goals as goal

pub returns-clause-joined : goal.returns-clause-joined
returns-clause-joined g c = rooted_join g.R.Rewrites.gives g.S.Rewrites.gives

pub returns-clause-narrowed : goal.returns-clause-narrowed
returns-clause-narrowed g c = rooted_narrowed g.R.Rewrites.gives g.S.Rewrites.gives

pub returns-clause-wider : goal.returns-clause-wider
returns-clause-wider g c = rooted_wider g.R.Rewrites.gives

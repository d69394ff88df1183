use Rattle.mini_kept.proofs.Lawful as law
use Rattle.mini_kept.proofs.lawful_rules_join.Goals as goal

pub returns : goal.returns
returns g c = law.lawful_join g.R.Rewrites.gives g.S.Rewrites.gives

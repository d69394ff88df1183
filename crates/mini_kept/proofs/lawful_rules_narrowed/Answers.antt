use Rattle.mini_kept.proofs.Lawful as law
use Rattle.mini_kept.proofs.lawful_rules_narrowed.Goals as goal

pub returns : goal.returns
returns g c = law.lawful_narrowed g.R.Rewrites.gives g.S.Rewrites.gives

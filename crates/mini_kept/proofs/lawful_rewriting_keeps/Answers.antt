use Rattle.mini_kept.proofs.Lawful as law
use Rattle.mini_kept.proofs.lawful_rewriting_keeps.Goals as goal

pub returns : goal.returns
returns g c = law.lawful_keeps g.R.Rewrites.gives

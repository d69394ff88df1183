use Rattle.mini_kept.proofs.Fixed as law
use Rattle.mini_kept.proofs.fixities_kept.Goals as goal

pub returns : goal.returns
returns g c = law.fixities_kept g.R.Rewrites.gives

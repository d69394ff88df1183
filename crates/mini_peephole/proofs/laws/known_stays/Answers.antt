use Rattle.mini_peephole.proofs.Known.{less_is_known}
use Rattle.mini_peephole.proofs.laws.known_stays.Goals as goal

pub returns : goal.returns
returns g c K W S = less_is_known K W S g.R.Rewrites.gives

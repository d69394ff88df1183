use Rattle.mini_accept.proofs.Depths.{deeper}
use Rattle.mini_accept.proofs.laws.deeper.Goals as goal

pub returns : goal.returns
returns c = deeper

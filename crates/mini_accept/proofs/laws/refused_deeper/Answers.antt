use Rattle.mini_accept.proofs.Refusals.{refused_deeper}
use Rattle.mini_accept.proofs.laws.refused_deeper.Goals as goal

pub returns : goal.returns
returns c = refused_deeper

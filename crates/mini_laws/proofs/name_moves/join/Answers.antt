use Rattle.mini_laws.proofs.Parts.{joined}
use Rattle.mini_laws.proofs.name_moves.join.Goals as goal

pub returns : goal.returns
returns c = joined

use Rattle.mini_laws.proofs.Parts.{split}
use Rattle.mini_laws.proofs.name_moves.split.Goals as goal

pub returns : goal.returns
returns c = split

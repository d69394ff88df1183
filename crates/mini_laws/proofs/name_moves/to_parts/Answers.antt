use Rattle.mini_laws.proofs.Parts.{to_parts}
use Rattle.mini_laws.proofs.name_moves.to_parts.Goals as goal

pub returns : goal.returns
returns c = to_parts

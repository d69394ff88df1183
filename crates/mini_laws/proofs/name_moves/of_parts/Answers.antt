use Rattle.mini_laws.proofs.Parts.{of_parts}
use Rattle.mini_laws.proofs.name_moves.of_parts.Goals as goal

pub returns : goal.returns
returns c = of_parts

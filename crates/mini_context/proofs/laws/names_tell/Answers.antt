use Rattle.mini_context.proofs.Marking.{among_by_symbol}
use Rattle.mini_context.proofs.laws.names_tell.Goals as goal

pub returns : goal.returns
returns c = among_by_symbol

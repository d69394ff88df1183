use Rattle.mini_accept.proofs.Symbols.{program_unresolved}
use Rattle.mini_accept.proofs.laws.names_have_no_symbol.Goals as goal

pub returns : goal.returns
returns c = program_unresolved

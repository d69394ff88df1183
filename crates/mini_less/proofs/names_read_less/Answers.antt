use Rattle.mini_less.proofs.NamesLess as law
use Rattle.mini_less.proofs.names_read_less.Goals as goal

pub returns : goal.returns
returns c = law.names_read_less

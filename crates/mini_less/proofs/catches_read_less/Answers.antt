use Rattle.mini_less.proofs.NamesLess as law
use Rattle.mini_less.proofs.catches_read_less.Goals as goal

pub returns : goal.returns
returns c = law.catches_read_less

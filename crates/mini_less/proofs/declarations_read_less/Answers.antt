use Rattle.mini_less.proofs.DeclarationsLess as law
use Rattle.mini_less.proofs.declarations_read_less.Goals as goal

pub returns : goal.returns
returns c = law.declarations_read_less

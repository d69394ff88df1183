use Rattle.mini_less.proofs.Lists as law
use Rattle.mini_less.proofs.lists_read_less.Goals as goal

pub returns : goal.returns
returns c = law.lists_read_less

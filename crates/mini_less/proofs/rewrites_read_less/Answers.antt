use Rattle.mini_less.proofs.UnusedLess as law
use Rattle.mini_less.proofs.rewrites_read_less.Goals as goal

pub returns : goal.returns
returns c = law.rewrites_read_less

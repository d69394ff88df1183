use Rattle.mini_less.proofs.FoldingsLess as law
use Rattle.mini_less.proofs.foldings_read_less.Goals as goal

pub returns : goal.returns
returns c = law.foldings_read_less

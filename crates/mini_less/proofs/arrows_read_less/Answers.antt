use Rattle.mini_less.proofs.ArrowsLess as law
use Rattle.mini_less.proofs.arrows_read_less.Goals as goal

pub returns : goal.returns
returns c = law.arrows_read_less

use Rattle.mini_less.proofs.BooleansLess as law
use Rattle.mini_less.proofs.booleans_read_less.Goals as goal

pub returns : goal.returns
returns c = law.booleans_read_less

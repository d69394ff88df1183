use Rattle.mini_less.proofs.ConstantsLess as law
use Rattle.mini_less.proofs.constants_read_less.Goals as goal

pub returns : goal.returns
returns c = law.constants_read_less

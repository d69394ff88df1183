use Rattle.mini_less.proofs.NegationsLess as law
use Rattle.mini_less.proofs.negations_read_less.Goals as goal

pub returns : goal.returns
returns c = law.negations_read_less

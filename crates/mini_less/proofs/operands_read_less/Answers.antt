use Rattle.mini_less.proofs.OperandsLess as law
use Rattle.mini_less.proofs.operands_read_less.Goals as goal

pub returns : goal.returns
returns c = law.operands_read_less

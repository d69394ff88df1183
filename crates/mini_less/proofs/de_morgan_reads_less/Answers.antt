use Rattle.mini_less.proofs.DeMorganLess as law
use Rattle.mini_less.proofs.de_morgan_reads_less.Goals as goal

pub returns : goal.returns
returns c = law.de_morgan_reads_less

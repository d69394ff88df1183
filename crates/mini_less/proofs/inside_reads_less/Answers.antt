use Rattle.mini_less.proofs.InsideUnused as law
use Rattle.mini_less.proofs.inside_reads_less.Goals as goal

pub returns : goal.returns
returns c = law.inside_reads_less

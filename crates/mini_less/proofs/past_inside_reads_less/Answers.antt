use Rattle.mini_less.proofs.InsideLess as law
use Rattle.mini_less.proofs.past_inside_reads_less.Goals as goal

pub returns : goal.returns
returns c = law.past_inside_reads_less

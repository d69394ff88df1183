use Rattle.mini_less.proofs.PastLess as law
use Rattle.mini_less.proofs.past_read_less.Goals as goal

pub returns : goal.returns
returns c = law.past_read_less

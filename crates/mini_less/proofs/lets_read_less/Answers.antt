use Rattle.mini_less.proofs.FadedLess as law
use Rattle.mini_less.proofs.lets_read_less.Goals as goal

pub returns : goal.returns
returns c = law.lets_read_less

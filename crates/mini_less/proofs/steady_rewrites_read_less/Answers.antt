use Rattle.mini_less.proofs.SteadyLess as law
use Rattle.mini_less.proofs.steady_rewrites_read_less.Goals as goal

pub returns : goal.returns
returns c = law.steady_rewrites_read_less

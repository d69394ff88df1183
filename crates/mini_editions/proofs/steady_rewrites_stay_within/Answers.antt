use Rattle.mini_editions.proofs.Bodies as law
use Rattle.mini_editions.proofs.steady_rewrites_stay_within.Goals as goal

pub returns : goal.returns
returns c = law.steady_rewrites_stay_within

use Rattle.mini_again.proofs.Everywhere as law
use Rattle.mini_again.proofs.rewrites_survive.Goals as goal

pub returns : goal.returns
returns c = law.rewrites_survive

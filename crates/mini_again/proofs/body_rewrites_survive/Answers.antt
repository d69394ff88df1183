use Rattle.mini_again.proofs.Bodies as law
use Rattle.mini_again.proofs.body_rewrites_survive.Goals as goal

pub returns : goal.returns
returns c = law.body_rewrites_survive

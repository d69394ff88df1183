use Rattle.mini_again.proofs.BodiesAgain as law
use Rattle.mini_again.proofs.bodies_survive.Goals as goal

pub returns : goal.returns
returns c = law.bodies_again

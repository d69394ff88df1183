use Rattle.mini_again.proofs.Bodies as law
use Rattle.mini_again.proofs.nothing_is_left_in_bodies.Goals as goal

pub returns : goal.returns
returns c = law.nothing_is_left_in_bodies

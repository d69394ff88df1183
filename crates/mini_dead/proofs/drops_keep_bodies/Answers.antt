use Rattle.mini_dead.proofs.Again as lemma
use Rattle.mini_dead.proofs.drops_keep_bodies.Goals as goal

pub returns-clause-bodies : goal.returns-clause-bodies
returns-clause-bodies c = lemma.drops_keep_bodies

pub returns-clause-stay : goal.returns-clause-stay
returns-clause-stay c = lemma.dropped_bodies_stay

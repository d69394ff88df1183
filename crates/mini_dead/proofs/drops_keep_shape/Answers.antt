use Rattle.mini_dead.proofs.Shapes as lemma
use Rattle.mini_dead.proofs.drops_keep_shape.Goals as goal

pub returns : goal.returns
returns c = lemma.drops_keep_shape

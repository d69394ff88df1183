use Rattle.mini_dead.proofs.DeadDropped as lemma
use Rattle.mini_dead.proofs.dead_is_dropped.Goals as goal

pub returns : goal.returns
returns c = lemma.dead_is_dropped

use Rattle.mini_dead.proofs.Marking as lemma
use Rattle.mini_dead.proofs.may_go_drops.Goals as goal

pub returns : goal.returns
returns c = lemma.may_go_drops

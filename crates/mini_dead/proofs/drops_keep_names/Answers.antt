use Rattle.mini_dead.proofs.KeptNames as lemma
use Rattle.mini_dead.proofs.drops_keep_names.Goals as goal

pub returns : goal.returns
returns c = lemma.drops_keep_names

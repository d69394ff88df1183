use Rattle.mini_laws.proofs.Replacing as lemma
use Rattle.mini_laws.proofs.paths.put_is_counted.Goals as goal

pub returns : goal.returns
returns c = lemma.put_counted_at

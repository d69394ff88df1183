use Rattle.mini_laws.proofs.Replacing as lemma
use Rattle.mini_laws.proofs.paths.put_near_a_path.Goals as goal

pub returns-clause-below : goal.returns-clause-below
returns-clause-below c = lemma.put_below

pub returns-clause-above : goal.returns-clause-above
returns-clause-above c = lemma.put_above

pub returns-clause-elsewhere : goal.returns-clause-elsewhere
returns-clause-elsewhere c = lemma.put_elsewhere

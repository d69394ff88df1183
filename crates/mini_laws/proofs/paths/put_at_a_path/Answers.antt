use Rattle.mini_laws.proofs.Replacing as lemma
use Rattle.mini_laws.proofs.paths.put_at_a_path.Goals as goal

pub returns-clause-found : goal.returns-clause-found
returns-clause-found c = lemma.put_found

pub returns-clause-back : goal.returns-clause-back
returns-clause-back c = lemma.put_back

pub returns-clause-twice : goal.returns-clause-twice
returns-clause-twice c = lemma.put_twice_at

pub returns-clause-same : goal.returns-clause-same
returns-clause-same c = lemma.put_same_at

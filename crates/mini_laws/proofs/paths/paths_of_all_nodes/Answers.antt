use Rattle.mini_laws.proofs.Preorder as lemma
use Rattle.mini_laws.proofs.paths.paths_of_all_nodes.Goals as goal

pub returns-clause-found : goal.returns-clause-found
returns-clause-found c = lemma.paths_found

pub returns-clause-once : goal.returns-clause-once
returns-clause-once c = lemma.paths_once

use Rattle.mini_laws.proofs.Finding as lemma
use Rattle.mini_laws.proofs.paths.found.Goals as goal

pub returns-clause-node : goal.returns-clause-node
returns-clause-node c = lemma.node_found

pub returns-clause-replaced : goal.returns-clause-replaced
returns-clause-replaced c = lemma.found_where_replaced

pub returns-clause-further : goal.returns-clause-further
returns-clause-further c = lemma.found_further

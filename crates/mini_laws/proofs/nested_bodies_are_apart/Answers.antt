use Rattle.mini_laws.proofs.Apart as lemma
use Rattle.mini_laws.proofs.nested_bodies_are_apart.Goals as goal

pub returns-clause-means : goal.returns-clause-means
returns-clause-means c = lemma.cut_means

pub returns-clause-reads : goal.returns-clause-reads
returns-clause-reads c = lemma.cut_reads

pub returns-clause-same : goal.returns-clause-same
returns-clause-same c = lemma.nested_apart

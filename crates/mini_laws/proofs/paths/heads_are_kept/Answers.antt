use Rattle.mini_laws.proofs.Replacing as lemma
use Rattle.mini_laws.proofs.paths.heads_are_kept.Goals as goal

pub returns-clause-all : goal.returns-clause-all
returns-clause-all c = lemma.head_kept

pub returns-clause-root : goal.returns-clause-root
returns-clause-root c = lemma.root_kept

pub returns-clause-leads : goal.returns-clause-leads
returns-clause-leads c = lemma.still_leads

use Rattle.mini_laws.proofs.Breaking as lemma
use Rattle.mini_laws.proofs.last_breaks.Goals as goal

pub returns-clause-block : goal.returns-clause-block
returns-clause-block c = lemma.block_breaks

pub returns-clause-loop_body : goal.returns-clause-loop_body
returns-clause-loop_body c = lemma.last_break_same

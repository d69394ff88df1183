use Rattle.mini_dead.proofs.DeadMarks as lemma
use Rattle.mini_dead.proofs.dead_symbols_go.Goals as goal

pub returns-clause-go : goal.returns-clause-go
returns-clause-go c = lemma.dead_symbols_go

pub returns-clause-counted : goal.returns-clause-counted
returns-clause-counted c = lemma.dead_items_counted

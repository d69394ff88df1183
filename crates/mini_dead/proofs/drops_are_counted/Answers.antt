use Rattle.mini_dead.proofs.Counting as lemma
use Rattle.mini_dead.proofs.drops_are_counted.Goals as goal

pub returns-clause-fall : goal.returns-clause-fall
returns-clause-fall c = lemma.drops_count

pub returns-clause-none : goal.returns-clause-none
returns-clause-none c = lemma.none_goes

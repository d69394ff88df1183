use Rattle.mini_kept.proofs.Swapping as lemma
use Rattle.mini_kept.proofs.branches_swapped.Goals as goal

pub returns-clause-swapped : goal.returns-clause-swapped
returns-clause-swapped c = lemma.branches_swapped

pub returns-clause-test : goal.returns-clause-test
returns-clause-test c = lemma.negation_left

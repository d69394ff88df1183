use Rattle.mini_logic.proofs.NegationsSame as lemma
use Rattle.mini_logic.proofs.laws.negations_mean_the_same.Goals as goal

pub returns-clause-lighter : goal.returns-clause-lighter
returns-clause-lighter c = lemma.lighter_same

pub returns-clause-lightest : goal.returns-clause-lightest
returns-clause-lightest c = lemma.lightest_same

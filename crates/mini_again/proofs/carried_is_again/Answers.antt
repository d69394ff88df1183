use Rattle.mini_again.proofs.Carrying as law
use Rattle.mini_again.proofs.carried_is_again.Goals as goal

pub returns-clause-again : goal.returns-clause-again
returns-clause-again c = law.carried_is_again

pub returns-clause-settled : goal.returns-clause-settled
returns-clause-settled c = law.carried_leaves_nothing

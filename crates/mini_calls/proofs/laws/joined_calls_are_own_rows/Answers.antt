use Rattle.mini_calls.proofs.OwnJoined.{decision_own, conditional_own}
use Rattle.mini_calls.proofs.laws.joined_calls_are_own_rows.Goals as goal

pub returns-clause-logical : goal.returns-clause-logical
returns-clause-logical c = decision_own

pub returns-clause-conditional : goal.returns-clause-conditional
returns-clause-conditional c = conditional_own

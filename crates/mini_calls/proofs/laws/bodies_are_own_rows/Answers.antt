use Rattle.mini_calls.proofs.OwnBodies.{negated_own, if_own, block_own, continue_own, for_own, switch_own, cases_own}
use Rattle.mini_calls.proofs.laws.bodies_are_own_rows.Goals as goal

pub returns-clause-block : goal.returns-clause-block
returns-clause-block c = block_own

pub returns-clause-last : goal.returns-clause-last
returns-clause-last c = continue_own

pub returns-clause-leaving : goal.returns-clause-leaving
returns-clause-leaving c = for_own

pub returns-clause-negation : goal.returns-clause-negation
returns-clause-negation c = negated_own

pub returns-clause-choice : goal.returns-clause-choice
returns-clause-choice c = if_own

pub returns-clause-one_case : goal.returns-clause-one_case
returns-clause-one_case c = switch_own

pub returns-clause-dead_cases : goal.returns-clause-dead_cases
returns-clause-dead_cases c = cases_own

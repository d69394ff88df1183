use Rattle.mini_calls.proofs.OwnBodies.{head_own}
use Rattle.mini_calls.proofs.OwnLogical.{side_own, and_or_own, coalesce_own, logical_own, branch_own, statement_own}
use Rattle.mini_calls.proofs.laws.folds_are_own_rows.Goals as goal

pub returns-clause-side : goal.returns-clause-side
returns-clause-side c = side_own

pub returns-clause-and_or : goal.returns-clause-and_or
returns-clause-and_or c = and_or_own

pub returns-clause-coalesce : goal.returns-clause-coalesce
returns-clause-coalesce c = coalesce_own

pub returns-clause-logical : goal.returns-clause-logical
returns-clause-logical c = logical_own

pub returns-clause-branch : goal.returns-clause-branch
returns-clause-branch c = branch_own

pub returns-clause-statement : goal.returns-clause-statement
returns-clause-statement c = statement_own

pub returns-clause-head : goal.returns-clause-head
returns-clause-head c = head_own

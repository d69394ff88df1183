use Rattle.mini_rows.proofs.Nests.{returns_deepen, throws_deepen, guards_stay, turned_deepen, blocks_stay, and_stays, or_stays, puts_within}
use Rattle.mini_rows.proofs.nesting.rows_keep_their_depth.Goals as goal

pub returns-clause-returns : goal.returns-clause-returns
returns-clause-returns c = returns_deepen

pub returns-clause-throws : goal.returns-clause-throws
returns-clause-throws c = throws_deepen

pub returns-clause-guards : goal.returns-clause-guards
returns-clause-guards c = guards_stay

pub returns-clause-turned : goal.returns-clause-turned
returns-clause-turned c = turned_deepen

pub returns-clause-blocks : goal.returns-clause-blocks
returns-clause-blocks c = blocks_stay

pub returns-clause-consequents : goal.returns-clause-consequents
returns-clause-consequents c = and_stays

pub returns-clause-alternates : goal.returns-clause-alternates
returns-clause-alternates c = or_stays

pub returns-clause-puts : goal.returns-clause-puts
returns-clause-puts c = puts_within

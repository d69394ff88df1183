use Rattle.mini_steady.proofs.MemberRows.{members_are_rows, unwritten_rests}
use Rattle.mini_steady.proofs.laws.members_are_rows.Goals as goal

pub returns-clause-written : goal.returns-clause-written
returns-clause-written c = members_are_rows

pub returns-clause-unwritten : goal.returns-clause-unwritten
returns-clause-unwritten c = unwritten_rests

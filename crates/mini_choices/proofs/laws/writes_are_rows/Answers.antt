use Rattle.mini_choices.proofs.Writes.{writes_are_rows, unwritten_rests}
use Rattle.mini_choices.proofs.laws.writes_are_rows.Goals as goal

pub returns-clause-written : goal.returns-clause-written
returns-clause-written c = writes_are_rows

pub returns-clause-unwritten : goal.returns-clause-unwritten
returns-clause-unwritten c = unwritten_rests

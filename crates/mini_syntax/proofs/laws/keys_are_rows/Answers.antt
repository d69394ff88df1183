use Rattle.mini_syntax.proofs.Keys.{written_is_reached, unwritten_rests}
use Rattle.mini_syntax.proofs.laws.keys_are_rows.Goals as goal

pub returns-clause-written : goal.returns-clause-written
returns-clause-written c = written_is_reached

pub returns-clause-unwritten : goal.returns-clause-unwritten
returns-clause-unwritten c = unwritten_rests

use Rattle.mini_syntax.proofs.Spelled.{written_is_row, unwritten_rests, rests_settle}
use Rattle.mini_syntax.proofs.laws.spellings_are_rows.Goals as goal

pub returns-clause-written : goal.returns-clause-written
returns-clause-written c = written_is_row

pub returns-clause-unwritten : goal.returns-clause-unwritten
returns-clause-unwritten c = unwritten_rests

pub returns-clause-settled : goal.returns-clause-settled
returns-clause-settled c = rests_settle

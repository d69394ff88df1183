use Rattle.mini_fold.proofs.KnownSides.{written_is_row, statement_is_row, unwritten_rests, statement_rests}
use Rattle.mini_fold.proofs.laws.folds_are_rows.Goals as goal

pub returns-clause-written : goal.returns-clause-written
returns-clause-written c = written_is_row

pub returns-clause-statement : goal.returns-clause-statement
returns-clause-statement c = statement_is_row

pub returns-clause-unwritten : goal.returns-clause-unwritten
returns-clause-unwritten c = unwritten_rests

pub returns-clause-rests : goal.returns-clause-rests
returns-clause-rests c = statement_rests

use Rattle.mini_syntax.specs.Lighter.{return_contracts}
use Rattle.mini_syntax.proofs.Returns.{written_is_row, unwritten_rests}
use Rattle.mini_syntax.proofs.laws.returns_are_rows.Goals as goal

pub returns-clause-written : goal.returns-clause-written
returns-clause-written c = written_is_row

pub returns-clause-unwritten : goal.returns-clause-unwritten
returns-clause-unwritten c = unwritten_rests

pub returns-clause-contracts : goal.returns-clause-contracts
returns-clause-contracts c = return_contracts

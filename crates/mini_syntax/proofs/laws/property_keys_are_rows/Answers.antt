use Rattle.mini_syntax.proofs.PropertyKeys.{written_is_row, unwritten_rests}
use Rattle.mini_syntax.proofs.laws.property_keys_are_rows.Goals as goal

pub returns-clause-written : goal.returns-clause-written
returns-clause-written c = written_is_row

pub returns-clause-unwritten : goal.returns-clause-unwritten
returns-clause-unwritten c = unwritten_rests

use Rattle.mini_rows.proofs.AllRows.{all_lawful, all_loose}
use Rattle.mini_rows.proofs.redexes.rows_are_lawful.Goals as goal

pub returns-clause-lawful : goal.returns-clause-lawful
returns-clause-lawful c = all_lawful

pub returns-clause-loosely : goal.returns-clause-loosely
returns-clause-loosely c = all_loose

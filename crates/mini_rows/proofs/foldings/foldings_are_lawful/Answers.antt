use Rattle.mini_rows.proofs.FoldRows.{foldings_lawful, foldings_loose}
use Rattle.mini_rows.proofs.foldings.foldings_are_lawful.Goals as goal

pub returns-clause-lawful : goal.returns-clause-lawful
returns-clause-lawful c = foldings_lawful

pub returns-clause-loosely : goal.returns-clause-loosely
returns-clause-loosely c = foldings_loose

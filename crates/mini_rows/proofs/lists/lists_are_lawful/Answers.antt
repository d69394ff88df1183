use Rattle.mini_rows.proofs.ListLawful.{lists_lawful, lists_loose}
use Rattle.mini_rows.proofs.lists.lists_are_lawful.Goals as goal

pub returns-clause-lawful : goal.returns-clause-lawful
returns-clause-lawful c = lists_lawful

pub returns-clause-loosely : goal.returns-clause-loosely
returns-clause-loosely c = lists_loose

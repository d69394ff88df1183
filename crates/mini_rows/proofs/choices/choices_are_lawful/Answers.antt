use Rattle.mini_rows.proofs.ChoiceLawful.{lawful, loose}
use Rattle.mini_rows.proofs.choices.choices_are_lawful.Goals as goal

pub returns-clause-lawful : goal.returns-clause-lawful
returns-clause-lawful c = lawful

pub returns-clause-loosely : goal.returns-clause-loosely
returns-clause-loosely c = loose

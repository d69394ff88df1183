use Rattle.mini_steps.specs.Rows.{CallRows}
use Rattle.mini_steps.proofs.Telling.{told}
use Rattle.mini_steps.proofs.laws.steps_are_told.Goals as goal

pub returns : goal.returns
returns c o W r = told (CallRows o W r)

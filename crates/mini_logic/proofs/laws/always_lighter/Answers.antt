use Rattle.mini_logic.proofs.MinimizeConditionalExpression as conditional
use Rattle.mini_logic.proofs.MinimizeIfStatement as «if»
use Rattle.mini_logic.proofs.laws.always_lighter.Goals as goal

pub returns-clause-conditional : goal.returns-clause-conditional
returns-clause-conditional c = conditional.row_lighter

pub returns-clause-when : goal.returns-clause-when
returns-clause-when c = «if».row_lighter

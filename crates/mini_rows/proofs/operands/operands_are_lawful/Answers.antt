use Rattle.mini_rows.proofs.OperandLawful.{operands_lawful}
use Rattle.mini_rows.proofs.operands.operands_are_lawful.Goals as goal

pub returns : goal.returns
returns c = operands_lawful

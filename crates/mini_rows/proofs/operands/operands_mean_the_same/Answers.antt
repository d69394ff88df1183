use Rattle.mini_rows.proofs.OperandMeaning.{operands_same}
use Rattle.mini_rows.proofs.operands.operands_mean_the_same.Goals as goal

pub returns : goal.returns
returns c = operands_same

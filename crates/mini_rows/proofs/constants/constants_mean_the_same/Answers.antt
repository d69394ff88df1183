use Rattle.mini_rows.proofs.ConstantMeaning.{constants_same}
use Rattle.mini_rows.proofs.constants.constants_mean_the_same.Goals as goal

pub returns : goal.returns
returns c = constants_same

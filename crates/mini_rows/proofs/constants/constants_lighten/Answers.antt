use Rattle.mini_rows.proofs.ConstantWeights.{lightens}
use Rattle.mini_rows.proofs.constants.constants_lighten.Goals as goal

pub returns : goal.returns
returns c = lightens

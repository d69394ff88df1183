use Rattle.mini_rows.proofs.BooleanMeaning.{booleans_same}
use Rattle.mini_rows.proofs.booleans.booleans_mean_the_same.Goals as goal

pub returns : goal.returns
returns c = booleans_same

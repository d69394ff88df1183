use Rattle.mini_rows.proofs.FoldMeaning.{foldings_same}
use Rattle.mini_rows.proofs.foldings.foldings_mean_the_same.Goals as goal

pub returns : goal.returns
returns c = foldings_same

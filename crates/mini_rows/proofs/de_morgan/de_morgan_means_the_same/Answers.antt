use Rattle.mini_rows.proofs.DeMorganMeaning.{de_morgan_same}
use Rattle.mini_rows.proofs.de_morgan.de_morgan_means_the_same.Goals as goal

pub returns : goal.returns
returns c = de_morgan_same

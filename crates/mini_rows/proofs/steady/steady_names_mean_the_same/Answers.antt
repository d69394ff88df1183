use Rattle.mini_rows.proofs.SteadyKept.{steady_same}
use Rattle.mini_rows.proofs.steady.steady_names_mean_the_same.Goals as goal

pub returns : goal.returns
returns c = steady_same

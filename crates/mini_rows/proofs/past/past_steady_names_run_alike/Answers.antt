use Rattle.mini_rows.proofs.PastStretches.{runs_alike}
use Rattle.mini_rows.proofs.past.past_steady_names_run_alike.Goals as goal

pub returns : goal.returns
returns c = runs_alike

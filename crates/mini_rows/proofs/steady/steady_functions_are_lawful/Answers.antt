use Rattle.mini_rows.proofs.SteadyLawful.{steady_functions_lawful}
use Rattle.mini_rows.proofs.steady.steady_functions_are_lawful.Goals as goal

pub returns : goal.returns
returns c = steady_functions_lawful

use Rattle.mini_rows.proofs.SteadyKept.{steady_lightens}
use Rattle.mini_rows.proofs.SteadyLawful.{steady_functions_lighten}
use Rattle.mini_rows.proofs.steady.steady_names_lighten.Goals as goal

pub returns-clause-row : goal.returns-clause-row
returns-clause-row c = steady_lightens

pub returns-clause-functions : goal.returns-clause-functions
returns-clause-functions c = steady_functions_lighten

use Rattle.mini_rows.proofs.LexicalKept.{lexical_lightens}
use Rattle.mini_rows.proofs.SteadyLawful.{lexical_functions_lighten}
use Rattle.mini_rows.proofs.lexical.lexical_names_lighten.Goals as goal

pub returns-clause-row : goal.returns-clause-row
returns-clause-row c = lexical_lightens

pub returns-clause-functions : goal.returns-clause-functions
returns-clause-functions c = lexical_functions_lighten

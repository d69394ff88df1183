use Rattle.mini_rows.proofs.SteadyLawful.{lexical_functions_lawful}
use Rattle.mini_rows.proofs.lexical.lexical_functions_are_lawful.Goals as goal

pub returns : goal.returns
returns c = lexical_functions_lawful

use Rattle.mini_rows.proofs.NameWeights.{names_lighter, names_lighten}
use Rattle.mini_rows.proofs.names.names_lighten.Goals as goal

pub returns-clause-lighter : goal.returns-clause-lighter
returns-clause-lighter c = names_lighter

pub returns-clause-anywhere : goal.returns-clause-anywhere
returns-clause-anywhere c = names_lighten

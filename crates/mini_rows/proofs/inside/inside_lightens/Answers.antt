use Rattle.mini_rows.proofs.InsideWeights.{inside_lighter, inside_lightens}
use Rattle.mini_rows.proofs.inside.inside_lightens.Goals as goal

pub returns-clause-lighter : goal.returns-clause-lighter
returns-clause-lighter c = inside_lighter

pub returns-clause-anywhere : goal.returns-clause-anywhere
returns-clause-anywhere c = inside_lightens

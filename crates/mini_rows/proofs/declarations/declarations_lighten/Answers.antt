use Rattle.mini_rows.proofs.DeclarationWeights.{declarations_lighter, declarations_lighten}
use Rattle.mini_rows.proofs.declarations.declarations_lighten.Goals as goal

pub returns-clause-lighter : goal.returns-clause-lighter
returns-clause-lighter c = declarations_lighter

pub returns-clause-anywhere : goal.returns-clause-anywhere
returns-clause-anywhere c = declarations_lighten

use Rattle.mini_rows.proofs.CatchWeights.{catches_lighter, catches_lighten}
use Rattle.mini_rows.proofs.catches.catches_lighten.Goals as goal

pub returns-clause-lighter : goal.returns-clause-lighter
returns-clause-lighter c = catches_lighter

pub returns-clause-anywhere : goal.returns-clause-anywhere
returns-clause-anywhere c = catches_lighten

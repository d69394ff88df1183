use Rattle.mini_rows.proofs.UnusedWeights.{unused_lighter, unused_lighten}
use Rattle.mini_rows.proofs.unused.unused_lighten.Goals as goal

pub returns-clause-lighter : goal.returns-clause-lighter
returns-clause-lighter c = unused_lighter

pub returns-clause-anywhere : goal.returns-clause-anywhere
returns-clause-anywhere c = unused_lighten

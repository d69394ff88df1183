use Rattle.mini_rows.proofs.LetWeights.{lets_lighter, lets_lighten}
use Rattle.mini_rows.proofs.lets.lets_lighten.Goals as goal

pub returns-clause-lighter : goal.returns-clause-lighter
returns-clause-lighter c = lets_lighter

pub returns-clause-anywhere : goal.returns-clause-anywhere
returns-clause-anywhere c = lets_lighten

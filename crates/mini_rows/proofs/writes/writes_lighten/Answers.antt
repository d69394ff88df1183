use Rattle.mini_rows.proofs.WriteWeights.{writes_lighter, writes_lighten}
use Rattle.mini_rows.proofs.writes.writes_lighten.Goals as goal

pub returns-clause-lighter : goal.returns-clause-lighter
returns-clause-lighter c = writes_lighter

pub returns-clause-anywhere : goal.returns-clause-anywhere
returns-clause-anywhere c = writes_lighten

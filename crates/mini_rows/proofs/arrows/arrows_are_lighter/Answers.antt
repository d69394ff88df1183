use Rattle.mini_rows.proofs.ArrowWeights.{arrows_lighter, arrows_lighten}
use Rattle.mini_rows.proofs.arrows.arrows_are_lighter.Goals as goal

pub returns-clause-row : goal.returns-clause-row
returns-clause-row c = arrows_lighter

pub returns-clause-step : goal.returns-clause-step
returns-clause-step c = arrows_lighten

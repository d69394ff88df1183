use Rattle.mini_rows.proofs.TurnWeights.{turns_lighter, turns_lighten}
use Rattle.mini_rows.proofs.turns.turns_are_lighter.Goals as goal

pub returns-clause-row : goal.returns-clause-row
returns-clause-row c = turns_lighter

pub returns-clause-step : goal.returns-clause-step
returns-clause-step c = turns_lighten

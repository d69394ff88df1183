use Rattle.mini_rows.proofs.SequenceWeights.{lighter, lightens}
use Rattle.mini_rows.proofs.sequences.sequences_are_lighter.Goals as goal

pub returns-clause-row : goal.returns-clause-row
returns-clause-row c = lighter

pub returns-clause-step : goal.returns-clause-step
returns-clause-step c = lightens

use Rattle.mini_rows.proofs.ChoiceCalls.{calls_lighter}
use Rattle.mini_rows.proofs.ChoiceIndexed.{indexed_lighter}
use Rattle.mini_rows.proofs.ChoiceWeights.{lighter, lightens}
use Rattle.mini_rows.proofs.choices.choices_are_lighter.Goals as goal

pub returns-clause-row : goal.returns-clause-row
returns-clause-row c = lighter

pub returns-clause-called : goal.returns-clause-called
returns-clause-called c = calls_lighter

pub returns-clause-indexed : goal.returns-clause-indexed
returns-clause-indexed c = indexed_lighter

pub returns-clause-step : goal.returns-clause-step
returns-clause-step c = lightens

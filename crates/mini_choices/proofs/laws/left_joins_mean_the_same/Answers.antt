use Rattle.mini_choices.proofs.LeftJoins.{joined_same, joined_to_the_left}
use Rattle.mini_choices.proofs.laws.left_joins_mean_the_same.Goals as goal

pub returns-clause-same : goal.returns-clause-same
returns-clause-same c = joined_same

pub returns-clause-left : goal.returns-clause-left
returns-clause-left c = joined_to_the_left

use Rattle.mini_rows.proofs.ListMeanings.{lists_mean_same}
use Rattle.mini_rows.proofs.ListWeights.{lists_lighten}
use Rattle.mini_rows.proofs.lists.lists_are_same.Goals as goal

pub returns-clause-means : goal.returns-clause-means
returns-clause-means c = lists_mean_same

pub returns-clause-lightens : goal.returns-clause-lightens
returns-clause-lightens c = lists_lighten

use Rattle.mini_rows.proofs.ListWeights.{lists_lighter}
use Rattle.mini_rows.proofs.lists.lists_are_lighter.Goals as goal

pub returns : goal.returns
returns c = lists_lighter

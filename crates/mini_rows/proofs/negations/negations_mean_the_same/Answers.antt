use Rattle.mini_rows.proofs.NegationMeaning.{negations_same, whole_same}
use Rattle.mini_rows.proofs.negations.negations_mean_the_same.Goals as goal

pub returns-clause-rows : goal.returns-clause-rows
returns-clause-rows c = negations_same

pub returns-clause-whole : goal.returns-clause-whole
returns-clause-whole c = whole_same

use Rattle.mini_rows.proofs.NegationLawful.{negations_lawful}
use Rattle.mini_rows.proofs.negations.negations_are_lawful.Goals as goal

pub returns : goal.returns
returns c = negations_lawful

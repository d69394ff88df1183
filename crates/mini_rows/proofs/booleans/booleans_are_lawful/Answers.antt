use Rattle.mini_rows.proofs.BooleanLawful.{booleans_lawful}
use Rattle.mini_rows.proofs.booleans.booleans_are_lawful.Goals as goal

pub returns : goal.returns
returns c = booleans_lawful

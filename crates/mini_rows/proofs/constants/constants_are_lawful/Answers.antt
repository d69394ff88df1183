use Rattle.mini_rows.proofs.JoinedLawful.{constants_lawful}
use Rattle.mini_rows.proofs.constants.constants_are_lawful.Goals as goal

pub returns : goal.returns
returns c = constants_lawful

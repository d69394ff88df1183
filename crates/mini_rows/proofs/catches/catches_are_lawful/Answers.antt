use Rattle.mini_rows.proofs.CatchLawful.{catches_lawful}
use Rattle.mini_rows.proofs.catches.catches_are_lawful.Goals as goal

pub returns : goal.returns
returns c = catches_lawful

use Rattle.mini_rows.proofs.DeMorganLawful.{de_morgan_lawful}
use Rattle.mini_rows.proofs.de_morgan.de_morgan_is_lawful.Goals as goal

pub returns : goal.returns
returns c = de_morgan_lawful

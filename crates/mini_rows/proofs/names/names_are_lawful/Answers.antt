use Rattle.mini_rows.proofs.NameLawful.{names_lawful}
use Rattle.mini_rows.proofs.names.names_are_lawful.Goals as goal

pub returns : goal.returns
returns c = names_lawful

use Rattle.mini_rows.proofs.DeclarationLawful.{declarations_lawful}
use Rattle.mini_rows.proofs.declarations.declarations_are_lawful.Goals as goal

pub returns : goal.returns
returns c = declarations_lawful

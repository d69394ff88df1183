use Rattle.mini_rows.proofs.DeclarationMeaning.{declarations_same}
use Rattle.mini_rows.proofs.declarations.declarations_same.Goals as goal

pub returns : goal.returns
returns c = declarations_same

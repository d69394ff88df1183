use Rattle.mini_rows.proofs.LetLawful.{lets_lawful}
use Rattle.mini_rows.proofs.lets.lets_are_lawful.Goals as goal

pub returns : goal.returns
returns c = lets_lawful

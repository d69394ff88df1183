use Rattle.mini_rows.proofs.SpellLawful.{lawful}
use Rattle.mini_rows.proofs.spellings.spellings_are_lawful.Goals as goal

pub returns : goal.returns
returns c = lawful

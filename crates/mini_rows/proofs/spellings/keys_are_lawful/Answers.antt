use Rattle.mini_rows.proofs.SpellKeyLawful.{lawful}
use Rattle.mini_rows.proofs.spellings.keys_are_lawful.Goals as goal

pub returns : goal.returns
returns c = lawful

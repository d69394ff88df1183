use Rattle.mini_rows.proofs.SpellMeaning.{spellings_same}
use Rattle.mini_rows.proofs.spellings.spellings_mean_the_same.Goals as goal

pub returns : goal.returns
returns c = spellings_same

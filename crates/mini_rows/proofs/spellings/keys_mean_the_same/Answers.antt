use Rattle.mini_rows.proofs.SpellKeyMeaning.{keys_same}
use Rattle.mini_rows.proofs.spellings.keys_mean_the_same.Goals as goal

pub returns : goal.returns
returns c = keys_same

use Rattle.mini_less.proofs.SpellingsLess as law
use Rattle.mini_less.proofs.spellings_read_less.Goals as goal

pub returns : goal.returns
returns c = law.spellings_read_less

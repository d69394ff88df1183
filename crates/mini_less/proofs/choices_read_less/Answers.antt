use Rattle.mini_less.proofs.ChoicesLess as law
use Rattle.mini_less.proofs.choices_read_less.Goals as goal

pub returns : goal.returns
returns c = law.choices_read_less

use Rattle.mini_less.proofs.KeysLess as law
use Rattle.mini_less.proofs.keys_read_less.Goals as goal

pub returns : goal.returns
returns c = law.keys_read_less

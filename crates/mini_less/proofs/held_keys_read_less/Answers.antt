use Rattle.mini_less.proofs.DeclaredKeysLess as law
use Rattle.mini_less.proofs.held_keys_read_less.Goals as goal

pub returns : goal.returns
returns c = law.held_keys_read_less

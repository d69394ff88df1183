use Rattle.mini_rows.proofs.KeysJoined.{held_keys_same}
use Rattle.mini_rows.proofs.spellings.held_keys_mean_the_same.Goals as goal

pub returns : goal.returns
returns c = held_keys_same

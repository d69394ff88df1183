use Rattle.mini_rows.proofs.KeysJoined.{held_keys_lawful}
use Rattle.mini_rows.proofs.spellings.held_keys_are_lawful.Goals as goal

pub returns : goal.returns
returns c = held_keys_lawful

use Rattle.mini_rows.proofs.KeysJoined.{held_keys_lighter, held_keys_lighten}
use Rattle.mini_rows.proofs.spellings.held_keys_are_lighter.Goals as goal

pub returns-clause-row : goal.returns-clause-row
returns-clause-row c = held_keys_lighter

pub returns-clause-step : goal.returns-clause-step
returns-clause-step c = held_keys_lighten

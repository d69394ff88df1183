use Rattle.mini_terms.proofs.ConstTable.{const_sound}
use Rattle.mini_terms.proofs.laws.const_is_sound.Goals as goal

pub returns : goal.returns
returns c = const_sound

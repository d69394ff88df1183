use Rattle.mini_terms.proofs.Int32Table.{int32_sound}
use Rattle.mini_terms.proofs.laws.int32_is_sound.Goals as goal

pub returns : goal.returns
returns c = int32_sound

use Rattle.mini_terms.proofs.KindTable.{kind_sound}
use Rattle.mini_terms.proofs.laws.kind_is_sound.Goals as goal

pub returns : goal.returns
returns c = kind_sound

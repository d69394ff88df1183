use Rattle.mini_terms.proofs.Truths.{lit_sound}
use Rattle.mini_terms.proofs.laws.lit_is_sound.Goals as goal

pub returns : goal.returns
returns c = lit_sound

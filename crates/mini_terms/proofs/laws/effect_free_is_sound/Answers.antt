use Rattle.mini_terms.proofs.EffectsTable.{effect_free_sound}
use Rattle.mini_terms.proofs.laws.effect_free_is_sound.Goals as goal

pub returns : goal.returns
returns c = effect_free_sound

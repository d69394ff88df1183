use Rattle.mini_model.proofs.Safe.{same_text}
use Rattle.mini_model.proofs.numeral_laws.texts_tell_numbers_apart.Goals as goal

pub returns : goal.returns
returns c = same_text

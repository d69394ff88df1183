use Rattle.mini_texts.proofs.Read.{printable_is_valid}
use Rattle.mini_texts.proofs.laws.printable_inputs_are_valid.Goals as goal

pub returns : goal.returns
returns c = printable_is_valid

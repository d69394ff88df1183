use Rattle.mini_model.proofs.Safe.{text_of_number, number_of_text}
use Rattle.mini_model.proofs.numeral_laws.safe_number_is_exact.Goals as goal

pub returns : goal.returns
returns c = λ text n. (text_of_number text n, number_of_text text n)

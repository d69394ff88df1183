use Rattle.std.proofs.Common.{refl}
use Rattle.std.specs.Fmt.{signed_decimal}
use Rattle.mini_model.proofs.Safe.{number_of_text}
use Rattle.mini_model.proofs.numeral_laws.numbers_come_back.Goals as goal

pub returns : goal.returns
returns c = λ n safe. number_of_text (signed_decimal n) n (safe, refl)

use Rattle.mini_printable.proofs.Voiced.{faultless_says}
use Rattle.mini_printable.proofs.programs_are_lexical.Goals as goal

pub returns : goal.returns
returns c = faultless_says

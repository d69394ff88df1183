use Rattle.mini_printable.proofs.Served.{faultless_prints}
use Rattle.mini_printable.proofs.programs_are_printable.Goals as goal

pub returns : goal.returns
returns c = faultless_prints

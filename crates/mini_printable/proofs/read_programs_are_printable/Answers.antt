use Rattle.mini_printable.proofs.Read.{read_prints}
use Rattle.mini_printable.proofs.read_programs_are_printable.Goals as goal

pub returns : goal.returns
returns c = read_prints

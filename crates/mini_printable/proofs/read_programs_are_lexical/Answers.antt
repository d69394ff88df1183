use Rattle.mini_printable.proofs.Read.{read_says}
use Rattle.mini_printable.proofs.read_programs_are_lexical.Goals as goal

pub returns : goal.returns
returns c = read_says

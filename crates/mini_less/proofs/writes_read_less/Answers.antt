use Rattle.mini_less.proofs.WritesLess as law
use Rattle.mini_less.proofs.writes_read_less.Goals as goal

pub returns : goal.returns
returns c = law.writes_read_less

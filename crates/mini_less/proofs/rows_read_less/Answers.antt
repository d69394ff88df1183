use Rattle.mini_less.proofs.Whole as law
use Rattle.mini_less.proofs.rows_read_less.Goals as goal

pub returns : goal.returns
returns c = law.rows_read_less

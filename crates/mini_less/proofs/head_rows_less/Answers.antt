use Rattle.mini_less.proofs.Lists as law
use Rattle.mini_less.proofs.head_rows_less.Goals as goal

pub returns : goal.returns
returns c = law.head_rows_less

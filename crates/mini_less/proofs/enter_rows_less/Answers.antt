use Rattle.mini_less.proofs.Lists as law
use Rattle.mini_less.proofs.enter_rows_less.Goals as goal

pub returns : goal.returns
returns c = law.enter_rows_less

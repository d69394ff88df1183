use Rattle.mini_less.proofs.IfsLess as law
use Rattle.mini_less.proofs.if_rows_less.Goals as goal

pub returns : goal.returns
returns c = law.if_rows_less

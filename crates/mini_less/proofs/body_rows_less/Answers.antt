use Rattle.mini_less.proofs.BodiesLess as law
use Rattle.mini_less.proofs.body_rows_less.Goals as goal

pub returns : goal.returns
returns c = law.body_rows_less

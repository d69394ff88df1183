use Rattle.mini_less.proofs.BodyThisLess as law
use Rattle.mini_less.proofs.body_rows_of_this_less.Goals as goal

pub returns : goal.returns
returns c = law.body_rows_of_this_less

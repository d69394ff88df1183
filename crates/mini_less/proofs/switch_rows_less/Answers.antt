use Rattle.mini_less.proofs.BranchesLess as law
use Rattle.mini_less.proofs.switch_rows_less.Goals as goal

pub returns : goal.returns
returns c = law.switch_rows_less

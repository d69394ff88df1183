use Rattle.mini_less.proofs.BranchesLess as law
use Rattle.mini_less.proofs.branches_read_less.Goals as goal

pub returns : goal.returns
returns c = law.branches_read_less

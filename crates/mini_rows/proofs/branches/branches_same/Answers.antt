use Rattle.mini_rows.proofs.BranchSame.{branches_same}
use Rattle.mini_rows.proofs.branches.branches_same.Goals as goal

pub returns : goal.returns
returns c = branches_same

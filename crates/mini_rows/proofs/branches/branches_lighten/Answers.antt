use Rattle.mini_rows.proofs.BranchWeights.{branch_lighter, branches_lighten}
use Rattle.mini_rows.proofs.branches.branches_lighten.Goals as goal

pub returns-clause-lighter : goal.returns-clause-lighter
returns-clause-lighter c = branch_lighter

pub returns-clause-anywhere : goal.returns-clause-anywhere
returns-clause-anywhere c = branches_lighten

use Rattle.mini_rows.proofs.BranchLawful.{branches_lawful, branches_loose}
use Rattle.mini_rows.proofs.branches.branches_are_lawful.Goals as goal

pub returns-clause-lawful : goal.returns-clause-lawful
returns-clause-lawful c = branches_lawful

pub returns-clause-loosely : goal.returns-clause-loosely
returns-clause-loosely c = branches_loose

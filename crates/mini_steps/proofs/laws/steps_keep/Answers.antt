use Rattle.mini_steps.proofs.Keeping.{are_rewrites, keep}
use Rattle.mini_steps.proofs.laws.steps_keep.Goals as goal

pub returns-clause-rewrites : goal.returns-clause-rewrites
returns-clause-rewrites c = are_rewrites

pub returns-clause-keeps : goal.returns-clause-keeps
returns-clause-keeps c = keep

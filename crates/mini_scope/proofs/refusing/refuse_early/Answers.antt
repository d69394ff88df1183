use Rattle.mini_scope.proofs.Refused.{free_of_faults}
use Rattle.mini_scope.proofs.refusing.refuse_early.Goals as goal

pub returns-in-Ok-clause-free : goal.returns-in-Ok-clause-free
returns-in-Ok-clause-free c = free_of_faults c.args.program.now c.in-Ok.ensures.ok

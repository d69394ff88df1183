use Rattle.mini_stmt.proofs.Assignments.{tells}
use Rattle.mini_stmt.proofs.rewrites.join_assignments.enters.Goals as goal

pub returns : goal.returns
returns c = tells c.args.first.now c.args.next.now c.enters_at.result c.enters_at.ensures c.is_some.result c.is_some.ensures

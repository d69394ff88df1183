use Rattle.std.proofs.Common.{◌-◌}
use Rattle.mini_model.specs.Tree.{count}
use Rattle.mini_stmt.proofs.Assignments.{Passed}
use Rattle.mini_stmt.proofs.rewrites.join_assignments.takes_at.Given as goal

abbrev pub invariant-loop-back : goal.invariant-loop-back
invariant-loop-back l = Passed l.target l.list (count l.list - l.back)

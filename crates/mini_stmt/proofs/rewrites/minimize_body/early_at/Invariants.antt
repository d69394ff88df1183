use Rattle.std.proofs.Common.{◌-◌}
use Rattle.mini_model.specs.Tree.{count}
use Rattle.mini_stmt.proofs.Bodies.{Passed}
use Rattle.mini_stmt.proofs.rewrites.minimize_body.early_at.Given as goal

abbrev pub invariant-loop-back : goal.invariant-loop-back
invariant-loop-back l = Passed l.in_loop l.list (count l.list - l.back)

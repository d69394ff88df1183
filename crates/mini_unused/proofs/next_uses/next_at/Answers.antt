use Rattle.std.proofs.Common.{arith}
use Rattle.std.specs.Prelude.{None}
use Rattle.mini_unused.specs.RemoveUnusedDeclaration.{allowed, open_in}
use Rattle.mini_unused.specs.SubstituteNext.{NextOf}
use Rattle.mini_unused.proofs.Unused.{so_far_on}
use Rattle.mini_unused.proofs.next_uses.next_at.Goals as goal

pub loop-at-preserved : goal.loop-at-preserved
loop-at-preserved c = so_far_on (λ i. NextOf (open_in c.args.outside.now (allowed c.args.context.now)) c.args.outside.now c.args.statements.now i None) c.loop-at.at _ (omega arith) c.in_default.ensures c.loop-at.invariant

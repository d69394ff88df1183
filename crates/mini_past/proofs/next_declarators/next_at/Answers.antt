use Rattle.std.proofs.Common.{arith}
use Rattle.std.specs.Prelude.{None}
use Rattle.mini_unused.proofs.Unused.{so_far_on}
use Rattle.mini_past.specs.SubstitutePast.{PastNextOf}
use Rattle.mini_past.proofs.next_declarators.next_at.Goals as goal

pub loop-at-preserved : goal.loop-at-preserved
loop-at-preserved g c = so_far_on (λ i. PastNextOf (g.S.SteadyNames.sets c.args.steady.now c.args.body) (g.S.PastNames.lets c.args.steady.now) c.args.outside.now c.args.statements.now i None) c.loop-at.at _ (omega arith) c.in_default.ensures c.loop-at.invariant

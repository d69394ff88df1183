use Rattle.mini_unused.specs.RemoveUnusedDeclaration.{allowed, open_in}
use Rattle.mini_unused.proofs.Swept.{swept_none, swept_on}
use Rattle.mini_unused.proofs.sweeping.sweep_from.Goals as goal

pub loop-at-init : goal.loop-at-init
loop-at-init c = swept_none (open_in c.args.outside.now (allowed c.args.context.now)) c.args.tallies.now c.args.outside.now c.args.list.now c.requires

pub loop-at-preserved : goal.loop-at-preserved
loop-at-preserved c = swept_on (open_in c.args.outside.now (allowed c.args.context.now)) c.args.tallies.now c.args.outside.now c.args.list.now _ _ c.loop-at.invariant c.in_ok-sweep_statement.ensures

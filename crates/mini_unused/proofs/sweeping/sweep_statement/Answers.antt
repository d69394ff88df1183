use Rattle.mini_unused.specs.RemoveUnusedDeclaration.{allowed, open_in}
use Rattle.mini_unused.proofs.Swept.{swept_none, swept_on}
use Rattle.mini_unused.proofs.sweeping.sweep_statement.Goals as goal

pub loop-passed-init : goal.loop-passed-init
loop-passed-init c = swept_none (open_in c.args.outside.now (allowed c.args.context.now)) c.args.tallies.now c.args.outside.now c.args.list.now c.requires.calm

pub loop-passed-preserved : goal.loop-passed-preserved
loop-passed-preserved c = swept_on (open_in c.args.outside.now (allowed c.args.context.now)) c.args.tallies.now c.args.outside.now c.args.list.now _ _ c.loop-passed.invariant c.in_ok-sweep_declarator.ensures

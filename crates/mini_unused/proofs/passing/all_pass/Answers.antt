use Rattle.std.proofs.Common.{sym, arith}
use Rattle.mini_unused.proofs.SingleUses.{all_start, all_step, all_stopped}
use Rattle.mini_unused.proofs.passing.all_pass.Goals as goal

pub loop-at-init : goal.loop-at-init
loop-at-init c = all_start c.args.gathered c.args.init.now c.args.shape.now c.args.nodes.now

pub returns-then-not-passes_at : goal.returns-then-not-passes_at
returns-then-not-passes_at c = sym (all_stopped c.args.gathered c.args.init.now c.args.shape.now c.args.nodes.now c.loop-at.at c.args.end c.child.result.now (omega arith) (omega arith) c.child.ensures.value (sym c.if-not-passes_at.ensures))

pub loop-at-preserved : goal.loop-at-preserved
loop-at-preserved c = all_step c.args.gathered c.args.init.now c.args.shape.now c.args.nodes.now c.loop-at.at c.child.result.now (omega arith) c.child.ensures.value (sym c.if-not-passes_at.ensures) c.loop-at.invariant

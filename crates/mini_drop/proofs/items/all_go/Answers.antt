use Rattle.std.proofs.Common.{ap, arith}
use Rattle.mini_context.specs.Tables.{mark_at}
use Rattle.mini_drop.proofs.Told.{all_begin, all_next, all_end}
use Rattle.std.specs.Prelude.{◌&&◌}
use Rattle.mini_drop.proofs.items.all_go.Goals as goal

pub loop-at-init : goal.loop-at-init
loop-at-init c = all_begin (mark_at c.args.set.now) c.args.nodes.now

pub loop-at-preserved : goal.loop-at-preserved
loop-at-preserved c = all_next (mark_at c.args.set.now) c.args.nodes.now c.loop-at.at c.loop-at.all _ c.child.result.now (omega arith) c.child.ensures.value (ap (λ b. c.loop-at.all && b) c.declarator_goes-all.ensures) c.loop-at.invariant

pub returns : goal.returns
returns c = all_end (mark_at c.args.set.now) c.args.nodes.now c.loop-at.at c.loop-at.all (omega arith) c.loop-at.invariant

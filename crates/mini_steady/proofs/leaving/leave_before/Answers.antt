use Rattle.std.proofs.Common.{sym, ◌∙◌, arith}
use Rattle.mini_steady.proofs.LeftParts.{leave_start, leave_step, leave_found, leave_end}
use Rattle.mini_steady.proofs.leaving.leave_before.Goals as goal

pub loop-at-init : goal.loop-at-init
loop-at-init c = leave_start c.args.object.now c.args.nodes.now

pub returns-then-not-leaves_object : goal.returns-then-not-leaves_object
returns-then-not-leaves_object c = sym (leave_found c.args.object.now c.args.nodes.now c.loop-at.at c.args.end c.child.result.now (omega arith) (omega arith) c.child.ensures.value (sym c.leaves_object.ensures ∙ c.if-not-leaves_object.true))

pub loop-at-preserved : goal.loop-at-preserved
loop-at-preserved c = leave_step c.args.object.now c.args.nodes.now c.loop-at.at _ c.child.result.now (omega arith) (omega arith) c.child.ensures.value (sym c.leaves_object.ensures ∙ c.if-not-leaves_object.false) c.loop-at.invariant

pub returns : goal.returns
returns c = leave_end c.args.object.now c.args.nodes.now c.loop-at.at c.args.end (omega arith) (omega arith) c.loop-at.invariant

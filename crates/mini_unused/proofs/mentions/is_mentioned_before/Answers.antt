use Rattle.std.proofs.Common.{sym, arith}
use Rattle.mini_unused.proofs.Standing.{before_start, before_step, before_found, before_end}
use Rattle.mini_unused.proofs.mentions.is_mentioned_before.Goals as goal

pub loop-at-init : goal.loop-at-init
loop-at-init c = before_start c.args.name.now c.args.nodes.now

pub returns-then-is_mentioned : goal.returns-then-is_mentioned
returns-then-is_mentioned c = sym (before_found c.args.name.now c.args.nodes.now c.loop-at.at c.args.end c.child.result.now (omega arith) (omega arith) c.child.ensures.value (sym c.if-is_mentioned.ensures))

pub loop-at-preserved : goal.loop-at-preserved
loop-at-preserved c = before_step c.args.name.now c.args.nodes.now c.loop-at.at _ c.child.result.now (omega arith) (omega arith) c.child.ensures.value (sym c.if-is_mentioned.ensures) c.loop-at.invariant

pub returns : goal.returns
returns c = before_end c.args.name.now c.args.nodes.now c.loop-at.at c.args.end (omega arith) (omega arith) c.loop-at.invariant

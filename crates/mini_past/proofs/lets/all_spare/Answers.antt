use Rattle.std.proofs.Common.{sym, ap, arith}
use Rattle.std.specs.Prelude.{not}
use Rattle.mini_rows.specs.Past.{spares}
use Rattle.mini_past.proofs.Firsts.{all_start, all_step, all_end, all_stopped}
use Rattle.mini_past.proofs.lets.all_spare.Goals as goal

pub loop-at-init : goal.loop-at-init
loop-at-init c = all_start (spares c.args.symbol.0) c.args.nodes.now

pub returns-then-binds : goal.returns-then-binds
returns-then-binds c = all_stopped (spares c.args.symbol.0) c.args.nodes.now c.loop-at.at c.args.end c.child.result.now (omega arith) (omega arith) c.child.ensures.value (ap not (sym c.if-binds.ensures))

pub loop-at-preserved : goal.loop-at-preserved
loop-at-preserved c = all_step (spares c.args.symbol.0) c.args.nodes.now c.loop-at.at _ c.child.result.now (omega arith) (omega arith) c.child.ensures.value (ap not (sym c.if-binds.ensures)) c.loop-at.invariant

pub returns : goal.returns
returns c = all_end (spares c.args.symbol.0) c.args.nodes.now c.loop-at.at c.args.end (omega arith) (omega arith) c.loop-at.invariant

use Rattle.std.proofs.Common.{sym, arith}
use Rattle.mini_rows.specs.Past.{lets_here}
use Rattle.mini_past.proofs.Firsts.{all_start, all_step, all_end, all_stopped}
use Rattle.mini_past.proofs.lets.all_here.Goals as goal

pub loop-at-init : goal.loop-at-init
loop-at-init c = all_start (lets_here c.args.symbol.0) c.args.statements.now

pub returns-then-not-lets_here : goal.returns-then-not-lets_here
returns-then-not-lets_here c = all_stopped (lets_here c.args.symbol.0) c.args.statements.now c.loop-at.at c.args.end c.child.result.now (omega arith) (omega arith) c.child.ensures.value (sym c.if-not-lets_here.ensures)

pub loop-at-preserved : goal.loop-at-preserved
loop-at-preserved c = all_step (lets_here c.args.symbol.0) c.args.statements.now c.loop-at.at _ c.child.result.now (omega arith) (omega arith) c.child.ensures.value (sym c.if-not-lets_here.ensures) c.loop-at.invariant

pub returns : goal.returns
returns c = all_end (lets_here c.args.symbol.0) c.args.statements.now c.loop-at.at c.args.end (omega arith) (omega arith) c.loop-at.invariant

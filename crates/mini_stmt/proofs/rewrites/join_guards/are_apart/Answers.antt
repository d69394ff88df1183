use Rattle.std.proofs.Common.{sym, arith}
use Rattle.mini_stmt.proofs.Guards.{apart_start, apart_stops, apart_goes_on, apart_ends}
use Rattle.mini_stmt.proofs.rewrites.join_guards.are_apart.Goals as goal

pub loop-at-init : goal.loop-at-init
loop-at-init c = apart_start c.args.list.now

pub returns-then-meet_at : goal.returns-then-meet_at
returns-then-meet_at c = apart_stops c.args.list.now c.loop-at.at (omega arith) (sym c.if-meet_at.ensures) c.loop-at.invariant

pub loop-at-preserved : goal.loop-at-preserved
loop-at-preserved c = apart_goes_on c.args.list.now c.loop-at.at (omega arith) (sym c.if-meet_at.ensures) c.loop-at.invariant

pub returns : goal.returns
returns c = apart_ends c.args.list.now c.loop-at.at (omega arith) c.loop-at.invariant

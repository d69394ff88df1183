use Rattle.std.proofs.Common.{sym, arith}
use Rattle.mini_stmt.specs.JoinLets.{marked}
use Rattle.mini_stmt.proofs.LetJoins.{joined_start, joined_stops, joined_goes_on, joined_ends}
use Rattle.mini_stmt.proofs.rewrites.join_lets.are_joined.Goals as goal

pub loop-at-init : goal.loop-at-init
loop-at-init c = joined_start (marked c.args.scopes.now) c.args.list.now

pub returns-then-joins_next : goal.returns-then-joins_next
returns-then-joins_next c = joined_stops (marked c.args.scopes.now) c.args.list.now c.loop-at.at (omega arith) (sym c.if-joins_next.ensures) c.loop-at.invariant

pub loop-at-preserved : goal.loop-at-preserved
loop-at-preserved c = joined_goes_on (marked c.args.scopes.now) c.args.list.now c.loop-at.at (omega arith) (sym c.if-joins_next.ensures) c.loop-at.invariant

pub returns : goal.returns
returns c = joined_ends (marked c.args.scopes.now) c.args.list.now c.loop-at.at (omega arith) c.loop-at.invariant

use Rattle.std.proofs.Common.{sym, arith}
use Rattle.mini_stmt.specs.MinimizeStatements.{switches_of}
use Rattle.mini_stmt.proofs.Assignments.{entered_start, entered_stops, entered_goes_on, entered_ends}
use Rattle.mini_stmt.proofs.rewrites.join_assignments.are_entered.Goals as goal

pub loop-at-init : goal.loop-at-init
loop-at-init c = entered_start (switches_of c.args.options) c.args.list.now

pub returns-then-enters_next : goal.returns-then-enters_next
returns-then-enters_next c = entered_stops (switches_of c.args.options) c.args.list.now c.loop-at.at (omega arith) (sym c.if-enters_next.ensures) c.loop-at.invariant

pub loop-at-preserved : goal.loop-at-preserved
loop-at-preserved c = entered_goes_on (switches_of c.args.options) c.args.list.now c.loop-at.at (omega arith) (sym c.if-enters_next.ensures) c.loop-at.invariant

pub returns : goal.returns
returns c = entered_ends (switches_of c.args.options) c.args.list.now c.loop-at.at (omega arith) c.loop-at.invariant

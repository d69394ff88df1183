use Rattle.std.proofs.Common.{arith}
use Rattle.mini_checker.specs.Forms.{marked}
use Rattle.mini_logged.proofs.Numbers.{none_yet, none_next, none_any}
use Rattle.mini_logged.proofs.offers.first_offered.Goals as goal

pub loop-number-init : goal.loop-number-init
loop-number-init c = none_yet (marked c.args.scopes.now.writable) c.args.place c.args.node.now

pub loop-number-preserved : goal.loop-number-preserved
loop-number-preserved c = none_next (marked c.args.scopes.now.writable) c.args.place c.args.node.now c.loop-number.number c.in_ok-row.field-0 c.in-None.is c.in_ok-row.ensures c.loop-number.invariant

pub returns : goal.returns
returns c = none_any (marked c.args.scopes.now.writable) c.args.place c.args.node.now c.loop-number.number (omega arith) c.loop-number.invariant

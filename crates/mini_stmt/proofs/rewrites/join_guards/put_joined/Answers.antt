use Rattle.std.proofs.Common.{sym}
use Rattle.mini_stmt.proofs.Guards.{some_last, put_apart, put_met}
use Rattle.mini_stmt.proofs.rewrites.join_guards.put_joined.Goals as goal

pub returns-then-not-meets_last : goal.returns-then-not-meets_last
returns-then-not-meets_last c = put_apart c.args.before.now c.args.statement c.push.new.self (sym c.if-not-meets_last.ensures) c.in_ok-push.ensures.ok

pub take_last-last-requires : goal.take_last-last-requires
take_last-last-requires c = some_last c.args.before.now c.args.statement (sym c.if-not-meets_last.ensures)

pub returns : goal.returns
returns c = put_met c.args.before.now c.take_last-last.new.list c.take_last-last.result c.args.statement c.in_ok-joined.joined c.push-2.new.self (sym c.if-not-meets_last.ensures) c.take_last-last.ensures c.in_ok-joined.ensures c.in_ok-push-2.ensures.ok

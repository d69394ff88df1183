use Rattle.std.proofs.Common.{sym}
use Rattle.mini_stmt.proofs.Unreached.{stays_put}
use Rattle.mini_stmt.proofs.rewrites.drop_unreached.put_left.Goals as goal

pub returns-then-not-may_go : goal.returns-then-not-may_go
returns-then-not-may_go c = stays_put c.args.going c.args.before.now c.args.statement c.push.new.self (sym c.if-not-may_go.ensures) c.in_ok-push.ensures.ok

use Rattle.std.proofs.Common.{sym}
use Rattle.mini_stmt.proofs.Unreached.{heavy_put}
use Rattle.mini_stmt.proofs.rewrites.drop_unreached.put_lighter.Goals as goal

pub returns-then-not-is_lighter : goal.returns-then-not-is_lighter
returns-then-not-is_lighter c = heavy_put c.args.going c.args.before.now c.args.statement c.push.new.self c.requires (sym c.if-not-is_lighter.ensures) c.in_ok-push.ensures.ok

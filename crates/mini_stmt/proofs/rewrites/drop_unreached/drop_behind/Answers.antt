use Rattle.mini_stmt.proofs.Unreached.{none_dropped}
use Rattle.mini_stmt.proofs.rewrites.drop_unreached.drop_behind.Goals as goal

pub returns-in-None : goal.returns-in-None
returns-in-None c = none_dropped c.args.going c.args.list.now c.in-None.ensures

use Rattle.mini_stmt.proofs.Unreached.{drops}
use Rattle.mini_stmt.proofs.rewrites.drop_unreached.drop_unreached.Goals as goal

pub returns : goal.returns
returns c = drops c.args.list.now c.drop_behind.new.list c.drop_behind.result c.drop_behind.ensures

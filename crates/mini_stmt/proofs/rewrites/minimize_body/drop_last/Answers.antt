use Rattle.mini_stmt.proofs.Bodies.{some_bare, drops_last}
use Rattle.mini_stmt.proofs.rewrites.minimize_body.drop_last.Goals as goal

pub take_last-last-requires : goal.take_last-last-requires
take_last-last-requires c = some_bare c.args.in_loop c.args.list.now c.requires

pub returns : goal.returns
returns c = drops_last c.args.in_loop c.args.list.now c.take_last-last.new.list c.take_last-last.result c.requires c.take_last-last.ensures

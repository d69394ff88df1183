use Rattle.mini_unused.specs.RemoveUnusedDeclaration.{allowed}
use Rattle.mini_inside.proofs.Heads.{idle_dropped, none_there}
use Rattle.mini_inside.proofs.holding.remove_idle_in_head.Goals as goal

pub returns-in-Some : goal.returns-in-Some
returns-in-Some c = idle_dropped (allowed c.args.context.now) c.args.node.now c.in-Some.which c.requires.head c.in-Some.ensures c.drop_idle_in_head.new.node c.drop_idle_in_head.result c.drop_idle_in_head.ensures

pub returns-in-None : goal.returns-in-None
returns-in-None c = none_there (allowed c.args.context.now) c.args.node.now c.requires.head c.in-None.ensures

use Rattle.std.proofs.Common.{sym}
use Rattle.mini_unused.proofs.Catching.{applied}
use Rattle.mini_unused.proofs.catches.substitute_catch_clause.Goals as goal

pub returns : goal.returns
returns c = applied c.args.node.now c.take_child.new.node (sym c.if-not-loses_name.ensures.kind) c.take_child.ensures.left

use Rattle.std.proofs.Common.{sym}
use Rattle.mini_unused.specs.RemoveUnusedName.{switches_of}
use Rattle.mini_unused.proofs.Nameless.{applied}
use Rattle.mini_unused.proofs.names.remove_unused_name.Goals as goal

pub returns : goal.returns
returns c = applied (switches_of c.args.options) c.args.node.now c.take_child.new.node (sym c.if-not-loses_name.ensures.kind) c.take_child.ensures.left

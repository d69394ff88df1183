use Rattle.std.proofs.Common.{sym}
use Rattle.mini_model.specs.Tree.{children}
use Rattle.mini_unused.specs.RemoveUnusedDeclaration.{allowed}
use Rattle.mini_inside.proofs.FurtherSteps.{held_by, no_held_here}
use Rattle.mini_inside.proofs.ends.remove_held.Goals as goal

pub returns-then-not-is_var : goal.returns-then-not-is_var
returns-then-not-is_var c = no_held_here (allowed c.args.context.now) (children c.args.above.now) c.args.node.now (sym c.if-not-is_var.ensures.kind)

pub returns : goal.returns
returns c = held_by (allowed c.args.context.now) c.args.above.now c.args.node.now c.in_ok-list.list c.remove_in_list.new.list c.in_ok-changed.changed c.requires c.in_ok-list.ensures c.in_ok-changed.ensures c.put_first.new.node c.put_first.ensures

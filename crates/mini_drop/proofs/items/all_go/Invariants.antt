use Rattle.std.proofs.Common.{◌≡◌}
use Rattle.std.specs.Prelude.{◌&&◌}
use Rattle.mini_context.specs.Tables.{mark_at}
use Rattle.mini_node.specs.Children.{rest_children}
use Rattle.mini_drop.specs.Asked as item
use Rattle.mini_drop.proofs.items.all_go.Given as goal

abbrev pub invariant-loop-at : goal.invariant-loop-at
invariant-loop-at l = (l.all && item.all_go (mark_at l.set) (rest_children l.at l.nodes)) ≡ item.all_go (mark_at l.set) l.nodes

use Rattle.std.proofs.Common.{◌+◌, ◌*◌}
use Rattle.mini_model.specs.Tree.{node_count}
use Rattle.mini_node.specs.Children.{part}
use Rattle.mini_inside.proofs.FurtherWalks.{Going}
use Rattle.mini_inside.proofs.further.+inside.Given as goal

abbrev pub decreases-remove_in : goal.decreases-remove_in
decreases-remove_in g l = 4 * node_count l.node.now + 3

abbrev pub decreases-remove_below : goal.decreases-remove_below
decreases-remove_below g l = 4 * node_count l.node.now + 2

abbrev pub decreases-remove_at : goal.decreases-remove_at
decreases-remove_at g l = 4 * node_count (part l.node.now l.at) + 5

abbrev pub decreases-remove_in_child : goal.decreases-remove_in_child
decreases-remove_in_child g l = 4 * node_count (part l.node.now l.at) + 4

abbrev pub invariant-remove_below-loop-at : goal.invariant-remove_below-loop-at
invariant-remove_below-loop-at g l = Going (g.E.EndRewrites.ends l.fn.ends) l.way l.fn.above l.above l.at l.fn.node l.node l.changed

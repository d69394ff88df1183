use Rattle.std.proofs.Common.{◌≡◌, ◌+◌, ◌*◌, false}
use Rattle.mini_model.specs.Tree.{node_count, node_counts}
use Rattle.mini_node.specs.Children.{first_children}
use Rattle.mini_rows.specs.Unused.{any_names}
use Rattle.mini_unused.proofs.passing.+looks.Given as goal

abbrev pub decreases-look : goal.decreases-look
decreases-look l = 2 * node_count l.node.now

abbrev pub decreases-look_along : goal.decreases-look_along
decreases-look_along l = 2 * node_counts l.nodes.now + 1

abbrev pub invariant-look_along-loop-at : goal.invariant-look_along-loop-at
invariant-look_along-loop-at l = any_names l.fn.name (first_children l.at l.fn.nodes) ≡ false

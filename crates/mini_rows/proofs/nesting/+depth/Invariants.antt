use Rattle.std.proofs.Common.{◌≡◌, ◌+◌, ◌*◌}
use Rattle.mini_model.specs.Tree.{node_count, node_counts}
use Rattle.mini_node.specs.Children.{rest_children}
use Rattle.mini_rows.specs.Nesting.{are_shallow}
use Rattle.mini_rows.proofs.nesting.+depth.Given as goal

abbrev pub decreases-are_shallow : goal.decreases-are_shallow
decreases-are_shallow l = 2 * node_counts l.nodes.now + 1

abbrev pub decreases-is_shallow : goal.decreases-is_shallow
decreases-is_shallow l = 2 * node_count l.node.now

abbrev pub invariant-are_shallow-loop-at : goal.invariant-are_shallow-loop-at
invariant-are_shallow-loop-at l = are_shallow l.levels (rest_children l.at l.nodes) ≡ are_shallow l.levels (rest_children l.from l.nodes)

use Rattle.std.proofs.Common.{◌≡◌, ◌+◌, ◌*◌}
use Rattle.mini_model.specs.Tree.{node_count, node_counts}
use Rattle.mini_model.specs.Paths.{append}
use Rattle.mini_node.specs.Children.{rest_children}
use Rattle.mini_checker.proofs.copying.+nodes.Given as goal

abbrev pub decreases-copy_node : goal.decreases-copy_node
decreases-copy_node l = 2 * node_count l.node.now

abbrev pub decreases-copy_nodes : goal.decreases-copy_nodes
decreases-copy_nodes l = 2 * node_counts l.nodes.now + 1

abbrev pub invariant-copy_nodes-loop-at : goal.invariant-copy_nodes-loop-at
invariant-copy_nodes-loop-at l = append l.copy (rest_children l.at l.nodes) ≡ l.nodes

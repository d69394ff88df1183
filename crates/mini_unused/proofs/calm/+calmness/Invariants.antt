use Rattle.std.proofs.Common.{◌≡◌, ◌+◌, ◌*◌}
use Rattle.mini_model.specs.Tree.{node_count, node_counts}
use Rattle.mini_node.specs.Children.{rest_children}
use Rattle.mini_rows.specs.Chains.{are_calm}
use Rattle.mini_unused.proofs.calm.+calmness.Given as goal

abbrev pub decreases-is_calm : goal.decreases-is_calm
decreases-is_calm l = 2 * node_count l.node.now

abbrev pub decreases-are_calm : goal.decreases-are_calm
decreases-are_calm l = 2 * node_counts l.nodes.now + 1

abbrev pub invariant-are_calm-loop-at : goal.invariant-are_calm-loop-at
invariant-are_calm-loop-at l = are_calm (rest_children l.at l.nodes) ≡ are_calm l.nodes

use Rattle.std.proofs.Common.{◌≡◌, ◌+◌, ◌*◌}
use Rattle.mini_model.specs.Tree.{node_count, node_counts}
use Rattle.mini_node.specs.Children.{rest_children}
use Rattle.mini_node.specs.Equal.{same_trees}
use Rattle.mini_node.proofs.equal.+comparing.Given as goal

abbrev pub decreases-is_same_tree : goal.decreases-is_same_tree
decreases-is_same_tree l = 2 * node_count l.first.now

abbrev pub decreases-are_same_trees : goal.decreases-are_same_trees
decreases-are_same_trees l = 2 * node_counts l.first.now + 1

abbrev pub invariant-are_same_trees-loop-at : goal.invariant-are_same_trees-loop-at
invariant-are_same_trees-loop-at l = same_trees (rest_children l.at l.first) (rest_children l.at l.second) ≡ same_trees l.first l.second

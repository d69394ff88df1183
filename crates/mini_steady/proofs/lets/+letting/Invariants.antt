use Rattle.std.proofs.Common.{◌+◌, ◌*◌}
use Rattle.mini_model.specs.Tree.{node_count, node_counts}
use Rattle.mini_node.specs.Children.{trees_of}
use Rattle.mini_steady.proofs.lets.+letting.Given as goal

abbrev pub decreases-is_let_in : goal.decreases-is_let_in
decreases-is_let_in l = 2 * node_count l.node.now

abbrev pub decreases-is_let_among : goal.decreases-is_let_among
decreases-is_let_among l = 2 * node_counts (trees_of l.nodes.now) + 1

abbrev pub decreases-is_let_first : goal.decreases-is_let_first
decreases-is_let_first l = 2 * node_counts (trees_of l.nodes.now) + 1

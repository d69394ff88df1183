use Rattle.std.proofs.Common.{◌+◌, ◌*◌}
use Rattle.mini_model.specs.Tree.{node_count, node_counts}
use Rattle.mini_node.specs.Children.{trees_of}
use Rattle.mini_steady.proofs.bindings.+twice.Given as goal

abbrev pub decreases-is_bound_twice : goal.decreases-is_bound_twice
decreases-is_bound_twice l = 2 * node_count l.node.now

abbrev pub decreases-are_bound_twice : goal.decreases-are_bound_twice
decreases-are_bound_twice l = 2 * node_counts (trees_of l.nodes.now) + 1

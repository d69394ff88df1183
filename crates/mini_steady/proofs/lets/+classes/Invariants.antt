use Rattle.std.proofs.Common.{◌+◌, ◌*◌}
use Rattle.mini_model.specs.Tree.{node_count, node_counts}
use Rattle.mini_node.specs.Children.{trees_of}
use Rattle.mini_steady.proofs.lets.+classes.Given as goal

abbrev pub decreases-is_class : goal.decreases-is_class
decreases-is_class l = 2 * node_count l.node.now

abbrev pub decreases-is_class_first : goal.decreases-is_class_first
decreases-is_class_first l = 2 * node_counts (trees_of l.nodes.now) + 1

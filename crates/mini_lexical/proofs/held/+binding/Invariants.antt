use Rattle.std.proofs.Common.{◌+◌, ◌*◌}
use Rattle.mini_model.specs.Tree.{node_count, node_counts}
use Rattle.mini_node.specs.Children.{trees_of}
use Rattle.mini_lexical.proofs.held.+binding.Given as goal

abbrev pub decreases-binds_only : goal.decreases-binds_only
decreases-binds_only g l = 2 * node_count l.node.now

abbrev pub decreases-all_bind_only : goal.decreases-all_bind_only
decreases-all_bind_only g l = 2 * node_counts (trees_of l.nodes.now) + 1

abbrev pub decreases-first_binds_only : goal.decreases-first_binds_only
decreases-first_binds_only g l = 2 * node_counts (trees_of l.nodes.now) + 1

use Rattle.std.proofs.Common.{◌+◌, ◌*◌}
use Rattle.mini_model.specs.Tree.{node_count, node_counts}
use Rattle.mini_node.specs.Children.{trees_of}
use Rattle.mini_steady.proofs.beginnings.+heads.Given as goal

abbrev pub decreases-is_lexical : goal.decreases-is_lexical
decreases-is_lexical l = 2 * node_count l.node.now

abbrev pub decreases-is_lexical_first : goal.decreases-is_lexical_first
decreases-is_lexical_first l = 2 * node_counts (trees_of l.nodes.now) + 1

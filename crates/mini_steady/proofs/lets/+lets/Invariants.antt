use Rattle.std.proofs.Common.{◌≡◌, ◌+◌, ◌*◌, ◌++◌, take}
use Rattle.mini_model.specs.Tree.{node_count, node_counts}
use Rattle.mini_node.specs.Children.{trees_of}
use Rattle.mini_steady.specs.Declarations.{lets_among}
use Rattle.mini_steady.proofs.lets.+lets.Given as goal

abbrev pub decreases-push_lets : goal.decreases-push_lets
decreases-push_lets l = 2 * node_count l.node.now

abbrev pub decreases-push_all_lets : goal.decreases-push_all_lets
decreases-push_all_lets l = 2 * node_counts (trees_of l.nodes.now) + 1

abbrev pub decreases-push_first_lets : goal.decreases-push_first_lets
decreases-push_first_lets l = 2 * node_counts (trees_of l.nodes.now) + 1

abbrev pub invariant-push_all_lets-loop-node : goal.invariant-push_all_lets-loop-node
invariant-push_all_lets-loop-node l = l.symbols.items ≡ l.initial.symbols.items ++ lets_among (trees_of (take l.node-index l.nodes))

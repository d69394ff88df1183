use Rattle.std.proofs.Common.{◌≡◌, ◌+◌, ◌*◌, ◌++◌, take}
use Rattle.mini_model.specs.Tree.{node_count, node_counts}
use Rattle.mini_node.specs.Children.{trees_of}
use Rattle.mini_steady.specs.Declarations.{declared_among}
use Rattle.mini_steady.proofs.code.+declarations.Given as goal

abbrev pub decreases-push_declared : goal.decreases-push_declared
decreases-push_declared l = 2 * node_count l.node.now

abbrev pub decreases-push_all : goal.decreases-push_all
decreases-push_all l = 2 * node_counts l.nodes.now + 1

abbrev pub invariant-push_all-loop-node : goal.invariant-push_all-loop-node
invariant-push_all-loop-node l = (l.symbols.items ≡ l.initial.symbols.items ++ declared_among (trees_of (take l.node-index l.node-items))) × (trees_of l.node-items ≡ l.nodes)

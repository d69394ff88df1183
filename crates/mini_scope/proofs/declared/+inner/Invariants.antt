use Rattle.std.proofs.Common.{◌≡◌, ◌+◌, ◌*◌, drop}
use Rattle.mini_model.specs.Tree.{node_count, node_counts}
use Rattle.mini_node.specs.Children.{trees_of}
use Rattle.mini_laws.specs.DeclaredNames.{any_inner}
use Rattle.mini_scope.proofs.declared.+inner.Given as goal

abbrev pub decreases-has_inner : goal.decreases-has_inner
decreases-has_inner l = 2 * node_count l.node.now

abbrev pub decreases-any_inner : goal.decreases-any_inner
decreases-any_inner l = 2 * node_counts l.nodes.now + 1

abbrev pub invariant-any_inner-loop-node : goal.invariant-any_inner-loop-node
invariant-any_inner-loop-node l = (any_inner l.nodes ≡ any_inner (trees_of (drop l.node-index l.node-items))) × (trees_of l.node-items ≡ l.nodes)

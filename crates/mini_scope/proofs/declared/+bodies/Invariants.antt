use Rattle.std.proofs.Common.{◌≡◌, ◌+◌, ◌*◌, ◌++◌, take}
use Rattle.mini_model.specs.Tree.{node_count, node_counts}
use Rattle.mini_node.specs.Children.{trees_of}
use Rattle.mini_laws.specs.DeclaredNames.{all_body_names}
use Rattle.mini_scope.proofs.declared.+bodies.Given as goal

abbrev pub decreases-push_body_names : goal.decreases-push_body_names
decreases-push_body_names l = 2 * node_count l.node.now

abbrev pub decreases-push_all_body_names : goal.decreases-push_all_body_names
decreases-push_all_body_names l = 2 * node_counts l.nodes.now + 1

abbrev pub invariant-push_all_body_names-loop-node : goal.invariant-push_all_body_names-loop-node
invariant-push_all_body_names-loop-node l = (l.names.items ≡ l.initial.names.items ++ all_body_names (trees_of (take l.node-index l.node-items))) × (trees_of l.node-items ≡ l.nodes)

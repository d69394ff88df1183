use Rattle.std.proofs.Common.{◌≡◌, ◌+◌, ◌*◌, ◌++◌}
use Rattle.mini_model.specs.Tree.{node_count, node_counts}
use Rattle.mini_node.specs.Children.{rest_children}
use Rattle.mini_laws.specs.Early.{all_early_names}
use Rattle.mini_scope.proofs.doubles.+names.Given as goal

abbrev pub decreases-push_early_names : goal.decreases-push_early_names
decreases-push_early_names l = 2 * node_count l.node.now

abbrev pub decreases-push_all_early_names : goal.decreases-push_all_early_names
decreases-push_all_early_names l = 2 * node_counts l.nodes.now + 1

abbrev pub invariant-push_all_early_names-loop-at : goal.invariant-push_all_early_names-loop-at
invariant-push_all_early_names-loop-at l = (l.path ≡ l.initial.path) × (l.found.items ++ all_early_names l.initial.path l.at (rest_children l.at l.nodes) ≡ l.initial.found.items ++ all_early_names l.initial.path 0 l.nodes)

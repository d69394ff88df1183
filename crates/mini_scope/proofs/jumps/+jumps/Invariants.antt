use Rattle.std.proofs.Common.{◌≡◌, ◌+◌, ◌*◌, ◌++◌}
use Rattle.mini_model.specs.Tree.{node_count, node_counts}
use Rattle.mini_node.specs.Children.{rest_children}
use Rattle.mini_laws.specs.Early.{all_early_jumps, targets_of}
use Rattle.mini_scope.proofs.jumps.+jumps.Given as goal

abbrev pub decreases-push_early_jumps : goal.decreases-push_early_jumps
decreases-push_early_jumps l = 3 * node_count l.node.now

abbrev pub decreases-push_turned : goal.decreases-push_turned
decreases-push_turned l = 3 * node_count l.node.now + 1

abbrev pub decreases-push_all_early_jumps : goal.decreases-push_all_early_jumps
decreases-push_all_early_jumps l = 3 * node_counts l.nodes.now + 2

abbrev pub invariant-push_all_early_jumps-loop-at : goal.invariant-push_all_early_jumps-loop-at
invariant-push_all_early_jumps-loop-at l = (l.path ≡ l.initial.path) × (l.found.items ++ all_early_jumps (targets_of l.shape l.nodes l.targets) l.initial.path l.at (rest_children l.at l.nodes) ≡ l.initial.found.items ++ all_early_jumps (targets_of l.shape l.nodes l.targets) l.initial.path 0 l.nodes)

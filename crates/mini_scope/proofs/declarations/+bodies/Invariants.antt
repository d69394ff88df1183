use Rattle.std.proofs.Common.{◌≡◌, ◌+◌, ◌*◌, ◌++◌}
use Rattle.mini_model.specs.Tree.{node_count, node_counts}
use Rattle.mini_node.specs.Children.{rest_children}
use Rattle.mini_laws.specs.Early.{all_body_declarations}
use Rattle.mini_scope.proofs.declarations.+bodies.Given as goal

abbrev pub decreases-push_body : goal.decreases-push_body
decreases-push_body l = 3 * node_count l.node.now

abbrev pub decreases-push_all_bodies : goal.decreases-push_all_bodies
decreases-push_all_bodies l = 3 * node_counts l.nodes.now + 2

abbrev pub decreases-push_body_at : goal.decreases-push_body_at
decreases-push_body_at l = 3 * node_counts l.nodes.now + 1

abbrev pub invariant-push_all_bodies-loop-at : goal.invariant-push_all_bodies-loop-at
invariant-push_all_bodies-loop-at l = (l.path ≡ l.initial.path) × (l.found.items ++ all_body_declarations l.is_outer l.initial.path l.at (rest_children l.at l.nodes) ≡ l.initial.found.items ++ all_body_declarations l.is_outer l.initial.path 0 l.nodes)

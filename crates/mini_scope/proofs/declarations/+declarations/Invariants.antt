use Rattle.std.proofs.Common.{◌≡◌, ◌+◌, ◌*◌, ◌++◌}
use Rattle.mini_model.specs.Tree.{node_count, node_counts}
use Rattle.mini_node.specs.Children.{rest_children}
use Rattle.mini_laws.specs.Early.{all_declarations}
use Rattle.mini_scope.proofs.declarations.+declarations.Given as goal

abbrev pub decreases-push_declarations : goal.decreases-push_declarations
decreases-push_declarations l = 3 * node_count l.node.now

abbrev pub decreases-push_all : goal.decreases-push_all
decreases-push_all l = 3 * node_counts l.nodes.now + 2

abbrev pub decreases-push_at : goal.decreases-push_at
decreases-push_at l = 3 * node_counts l.nodes.now + 1

abbrev pub invariant-push_all-loop-at : goal.invariant-push_all-loop-at
invariant-push_all-loop-at l = (l.path ≡ l.initial.path) × (l.found.items ++ all_declarations l.declared l.is_lexical l.initial.path l.at (rest_children l.at l.nodes) ≡ l.initial.found.items ++ all_declarations l.declared l.is_lexical l.initial.path 0 l.nodes)

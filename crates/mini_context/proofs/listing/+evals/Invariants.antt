use Rattle.std.proofs.Common.{◌≡◌, ◌+◌, ◌*◌}
use Rattle.mini_model.specs.Tree.{node_count, node_counts}
use Rattle.mini_node.specs.Children.{rest_children}
use Rattle.mini_laws.specs.ScopeList.{any_has_eval}
use Rattle.mini_context.proofs.listing.+evals.Given as goal

abbrev pub decreases-has_eval : goal.decreases-has_eval
decreases-has_eval l = 2 * node_count l.node.now

abbrev pub decreases-any_has_eval : goal.decreases-any_has_eval
decreases-any_has_eval l = 2 * node_counts l.nodes.now + 1

abbrev pub invariant-any_has_eval-loop-at : goal.invariant-any_has_eval-loop-at
invariant-any_has_eval-loop-at l = any_has_eval (rest_children l.from l.nodes) ≡ any_has_eval (rest_children l.at l.nodes)

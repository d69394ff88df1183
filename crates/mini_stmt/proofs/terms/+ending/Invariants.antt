use Rattle.std.proofs.Common.{◌≡◌, ◌+◌, ◌*◌}
use Rattle.mini_model.specs.Tree.{node_count, node_counts}
use Rattle.mini_node.specs.Children.{rest_children}
use Rattle.mini_stmt.proofs.Parts.{some_ends}
use Rattle.mini_stmt.proofs.terms.+ending.Given as goal

abbrev pub decreases-has_terminated : goal.decreases-has_terminated
decreases-has_terminated l = 2 * node_counts l.nodes.now + 1

abbrev pub decreases-is_terminated : goal.decreases-is_terminated
decreases-is_terminated l = 2 * node_count l.node.now

abbrev pub invariant-has_terminated-loop-at : goal.invariant-has_terminated-loop-at
invariant-has_terminated-loop-at l = some_ends (rest_children l.at l.nodes) ≡ some_ends l.nodes

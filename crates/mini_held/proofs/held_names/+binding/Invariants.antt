use Rattle.std.proofs.Common.{◌≡◌, ◌+◌, ◌*◌}
use Rattle.mini_model.specs.Tree.{node_count, node_counts}
use Rattle.mini_node.specs.Children.{rest_children}
use Rattle.mini_rows.specs.Lists.{all_bind}
use Rattle.mini_held.proofs.held_names.+binding.Given as goal

abbrev pub decreases-binds : goal.decreases-binds
decreases-binds l = 2 * node_count l.node.now

abbrev pub decreases-all_bind : goal.decreases-all_bind
decreases-all_bind l = 2 * node_counts l.nodes.now + 1

abbrev pub decreases-first_binds : goal.decreases-first_binds
decreases-first_binds l = 2 * node_counts l.nodes.now + 1

abbrev pub invariant-all_bind-loop-at : goal.invariant-all_bind-loop-at
invariant-all_bind-loop-at l = all_bind (rest_children l.at l.nodes) ≡ all_bind l.nodes

use Rattle.std.proofs.Common.{◌≡◌, ◌+◌, ◌*◌}
use Rattle.mini_model.specs.Tree.{node_count, node_counts}
use Rattle.mini_node.specs.Children.{rest_children}
use Rattle.mini_terms.specs.Parts.{leave_nothing}
use Rattle.mini_terms.proofs.parts.+leaving.Given as goal

abbrev pub decreases-leaves_nothing : goal.decreases-leaves_nothing
decreases-leaves_nothing l = 2 * node_count l.node.now

abbrev pub decreases-leave_nothing : goal.decreases-leave_nothing
decreases-leave_nothing l = 2 * node_counts l.nodes.now + 1

abbrev pub invariant-leave_nothing-loop-at : goal.invariant-leave_nothing-loop-at
invariant-leave_nothing-loop-at l = leave_nothing (rest_children l.at l.nodes) ≡ leave_nothing l.nodes

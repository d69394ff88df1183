use Rattle.std.proofs.Common.{◌≡◌, ◌+◌, ◌*◌}
use Rattle.mini_model.specs.Tree.{node_count, node_counts}
use Rattle.mini_node.specs.Children.{rest_children}
use Rattle.mini_rows.specs.DeadCases.{hoist_nothing}
use Rattle.mini_switch.proofs.rewrites.drop_unreachable_switch_cases.+hoisting.Given as goal

abbrev pub decreases-hoists_nothing : goal.decreases-hoists_nothing
decreases-hoists_nothing l = 2 * node_count l.node.now

abbrev pub decreases-hoist_nothing : goal.decreases-hoist_nothing
decreases-hoist_nothing l = 2 * node_counts l.nodes.now + 1

abbrev pub invariant-hoist_nothing-loop-at : goal.invariant-hoist_nothing-loop-at
invariant-hoist_nothing-loop-at l = hoist_nothing (rest_children l.at l.nodes) ≡ hoist_nothing l.nodes

use Rattle.std.proofs.Common.{◌≡◌, ◌+◌, ◌*◌}
use Rattle.mini_model.specs.Tree.{node_count, node_counts}
use Rattle.mini_node.specs.Children.{rest_children}
use Rattle.mini_rows.specs.Cases.{any_breaks_out}
use Rattle.mini_switch.proofs.rewrites.minimize_switch_statements.+breaking.Given as goal

abbrev pub decreases-breaks_through : goal.decreases-breaks_through
decreases-breaks_through l = 3 * node_count l.child.now + 1

abbrev pub decreases-any_breaks_out : goal.decreases-any_breaks_out
decreases-any_breaks_out l = 3 * node_counts l.nodes.now + 2

abbrev pub decreases-breaks_out : goal.decreases-breaks_out
decreases-breaks_out l = 3 * node_count l.node.now

abbrev pub invariant-any_breaks_out-loop-at : goal.invariant-any_breaks_out-loop-at
invariant-any_breaks_out-loop-at l = any_breaks_out l.fn.shape l.at (rest_children l.at l.fn.nodes) ≡ any_breaks_out l.fn.shape 0 l.fn.nodes

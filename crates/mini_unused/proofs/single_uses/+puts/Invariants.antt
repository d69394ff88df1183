use Rattle.std.proofs.Common.{◌≡◌, ◌+◌, ◌*◌, false}
use Rattle.mini_model.specs.Tree.{node_count, node_counts}
use Rattle.mini_node.specs.Children.{first_children}
use Rattle.mini_rows.specs.Unused.{any_names}
use Rattle.mini_unused.proofs.single_uses.+puts.Given as goal

abbrev pub decreases-put_inside : goal.decreases-put_inside
decreases-put_inside l = 2 * node_count l.node.now

abbrev pub decreases-put_along : goal.decreases-put_along
decreases-put_along l = 2 * node_counts l.nodes.now + 1

abbrev pub invariant-put_along-loop-at : goal.invariant-put_along-loop-at
invariant-put_along-loop-at l = (any_names l.fn.name (first_children l.at l.initial.nodes) ≡ false) × (l.nodes ≡ l.initial.nodes) × (l.left ≡ l.initial.left)

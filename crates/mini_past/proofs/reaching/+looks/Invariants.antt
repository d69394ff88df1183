use Rattle.std.proofs.Common.{◌≡◌, ◌+◌, ◌*◌, false}
use Rattle.mini_model.specs.Tree.{node_count, node_counts}
use Rattle.mini_node.specs.Children.{first_children}
use Rattle.mini_rows.specs.Unused.{any_names}
use Rattle.mini_past.proofs.reaching.+looks.Given as goal

abbrev pub decreases-look : goal.decreases-look
decreases-look g l = 2 * node_count l.node.now

abbrev pub decreases-look_along : goal.decreases-look_along
decreases-look_along g l = 2 * node_counts l.nodes.now + 1

abbrev pub invariant-look_along-loop-place : goal.invariant-look_along-loop-place
invariant-look_along-loop-place g l = any_names l.fn.name (first_children l.place l.fn.nodes) ≡ false

use Rattle.std.proofs.Common.{◌≡◌, ◌+◌, ◌*◌}
use Rattle.mini_model.specs.Tree.{node_count, node_counts}
use Rattle.mini_node.specs.Children.{rest_children}
use Rattle.mini_rows.specs.Lists.{all_enclose}
use Rattle.mini_held.proofs.held_names.+enclosing.Given as goal

abbrev pub decreases-encloses : goal.decreases-encloses
decreases-encloses l = 2 * node_count l.node.now

abbrev pub decreases-all_enclose : goal.decreases-all_enclose
decreases-all_enclose l = 2 * node_counts l.nodes.now + 1

abbrev pub invariant-all_enclose-loop-at : goal.invariant-all_enclose-loop-at
invariant-all_enclose-loop-at l = all_enclose l.held l.shape l.at (rest_children l.at l.nodes) ≡ all_enclose l.held l.shape 0 l.nodes

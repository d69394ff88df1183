use Rattle.std.proofs.Common.{◌≡◌, ◌+◌, ◌*◌, ◌++◌}
use Rattle.mini_model.specs.Tree.{node_count, node_counts}
use Rattle.mini_node.specs.Children.{rest_children}
use Rattle.mini_kept.specs.Carried.{all_numbers}
use Rattle.mini_peephole.proofs.named.+numbers.Given as goal

abbrev pub decreases-push_numbers : goal.decreases-push_numbers
decreases-push_numbers l = 2 * node_count l.node.now

abbrev pub decreases-push_all_numbers : goal.decreases-push_all_numbers
decreases-push_all_numbers l = 2 * node_counts l.nodes.now + 1

abbrev pub invariant-push_all_numbers-loop-at : goal.invariant-push_all_numbers-loop-at
invariant-push_all_numbers-loop-at l = l.found ++ all_numbers (rest_children l.at l.nodes) ≡ l.initial.found ++ all_numbers l.nodes

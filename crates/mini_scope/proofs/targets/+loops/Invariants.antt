use Rattle.std.proofs.Common.{◌+◌, ◌*◌}
use Rattle.mini_model.specs.Tree.{node_count, node_counts}
use Rattle.mini_scope.proofs.targets.+loops.Given as goal

abbrev pub decreases-is_loop : goal.decreases-is_loop
decreases-is_loop l = 2 * node_count l.node.now

abbrev pub decreases-last_is_loop : goal.decreases-last_is_loop
decreases-last_is_loop l = 2 * node_counts l.nodes.now + 1

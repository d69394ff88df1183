use Rattle.std.proofs.Common.{◌+◌, ◌*◌}
use Rattle.mini_model.specs.Tree.{node_count, node_counts}
use Rattle.mini_drop.proofs.texts.+reading.Given as goal

abbrev pub decreases-read : goal.decreases-read
decreases-read l = 2 * node_count l.node.now

abbrev pub decreases-read_below : goal.decreases-read_below
decreases-read_below l = 2 * node_counts l.nodes.now + 1

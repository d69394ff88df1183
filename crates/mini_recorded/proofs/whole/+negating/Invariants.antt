use Rattle.std.proofs.Common.{◌+◌, ◌*◌}
use Rattle.mini_model.specs.Tree.{node_count, node_counts}
use Rattle.mini_recorded.proofs.whole.+negating.Given as goal

abbrev pub decreases-whole : goal.decreases-whole
decreases-whole l = 3 * node_count l.node.now + 1

abbrev pub decreases-whole_sides : goal.decreases-whole_sides
decreases-whole_sides l = 3 * node_count l.node.now

abbrev pub decreases-whole_sequence : goal.decreases-whole_sequence
decreases-whole_sequence l = 3 * node_counts l.parts.now + 2

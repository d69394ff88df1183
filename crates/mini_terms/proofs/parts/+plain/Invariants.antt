use Rattle.std.proofs.Common.{◌+◌, ◌*◌}
use Rattle.mini_model.specs.Tree.{node_count}
use Rattle.mini_terms.proofs.parts.+plain.Given as goal

abbrev pub decreases-is_plain_part : goal.decreases-is_plain_part
decreases-is_plain_part l = 2 * node_count l.node.now + 1

abbrev pub decreases-is_first_plain : goal.decreases-is_first_plain
decreases-is_first_plain l = 2 * node_count l.node.now

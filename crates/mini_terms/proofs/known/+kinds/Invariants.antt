use Rattle.std.proofs.Common.{◌+◌, ◌*◌}
use Rattle.mini_model.specs.Tree.{node_count}
use Rattle.mini_terms.proofs.known.+kinds.Given as goal

abbrev pub decreases-kind_of : goal.decreases-kind_of
decreases-kind_of l = 4 * node_count l.node.now + 3

abbrev pub decreases-child_kind : goal.decreases-child_kind
decreases-child_kind l = 4 * node_count l.node.now

abbrev pub decreases-last_kind : goal.decreases-last_kind
decreases-last_kind l = 4 * node_count l.node.now

abbrev pub decreases-kind_after : goal.decreases-kind_after
decreases-kind_after l = 4 * node_count l.node.now + 1

abbrev pub decreases-kind_of_both : goal.decreases-kind_of_both
decreases-kind_of_both l = 4 * node_count l.node.now + 2

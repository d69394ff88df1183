use Rattle.std.proofs.Common.{◌+◌, ◌*◌}
use Rattle.mini_model.specs.Tree.{node_count, node_counts}
use Rattle.mini_faults.proofs.Searches.{Left}
use Rattle.mini_faults.proofs.defects.+search.Given as goal

abbrev pub decreases-search : goal.decreases-search
decreases-search l = 4 * node_count l.node.now + 3

abbrev pub decreases-search_node : goal.decreases-search_node
decreases-search_node l = 4 * node_count l.node.now + 2

abbrev pub decreases-first_below : goal.decreases-first_below
decreases-first_below l = 4 * node_count l.node.now + 1

abbrev pub decreases-search_all : goal.decreases-search_all
decreases-search_all l = 4 * node_counts l.nodes.now + 4

abbrev pub invariant-search_all-loop-i : goal.invariant-search_all-loop-i
invariant-search_all-loop-i l = Left l.label l.nodes l.at l.i l.place

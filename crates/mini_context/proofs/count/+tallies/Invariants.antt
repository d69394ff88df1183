use Rattle.std.proofs.Common.{◌+◌, ◌*◌, length}
use Rattle.mini_model.specs.Tree.{node_count, node_counts}
use Rattle.mini_laws.specs.Scopes.{use_of}
use Rattle.mini_laws.specs.References.{references_from, reads, writes}
use Rattle.mini_context.specs.Tallies.{tallied}
use Rattle.mini_context.proofs.Counting.{Going}
use Rattle.mini_context.proofs.count.+tallies.Given as goal

abbrev pub decreases-tally_node : goal.decreases-tally_node
decreases-tally_node g l = 2 * node_count l.node.now

abbrev pub decreases-tally_nodes : goal.decreases-tally_nodes
decreases-tally_nodes g l = 2 * node_counts l.nodes.now + 1

abbrev pub invariant-tally_nodes-loop-at : goal.invariant-tally_nodes-loop-at
invariant-tally_nodes-loop-at g l =
    let rs = references_from (use_of l.shape l.usage) 0 l.nodes in
    Going l.tally (use_of l.shape l.usage) l.nodes l.at l.counts.reads.items l.counts.writes.items l.steps
    (tallied l.tally reads rs l.initial.counts.reads.items) (tallied l.tally writes rs l.initial.counts.writes.items) (l.initial.steps + length rs)

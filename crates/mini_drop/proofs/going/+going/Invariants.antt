use Rattle.std.proofs.Common.{◌+◌, ◌*◌}
use Rattle.std.specs.Prelude.{slice_index}
use Rattle.mini_model.specs.Tree.{node_count, node_counts}
use Rattle.mini_context.specs.Tables.{mark_at}
use Rattle.mini_dead.specs.Marked.{all_may_go}
use Rattle.mini_drop.specs.Asked.{role_in}
use Rattle.mini_drop.proofs.Every.{Until}
use Rattle.mini_drop.proofs.going.+going.Given as goal

abbrev pub decreases-may_go : goal.decreases-may_go
decreases-may_go l = 3 * node_count l.node.now

abbrev pub decreases-parts_may_go : goal.decreases-parts_may_go
decreases-parts_may_go l = 3 * node_counts l.nodes.now + 2

abbrev pub decreases-part_may_go : goal.decreases-part_may_go
decreases-part_may_go l = 3 * node_count l.node.now + 1

abbrev pub invariant-parts_may_go-loop-at : goal.invariant-parts_may_go-loop-at
invariant-parts_may_go-loop-at l = Until (all_may_go (mark_at l.set) (slice_index l.rounds) (role_in l.role)) l.nodes 0 l.at l.all

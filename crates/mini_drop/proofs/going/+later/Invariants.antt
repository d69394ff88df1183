use Rattle.std.proofs.Common.{◌+◌, ◌*◌}
use Rattle.std.specs.Prelude.{slice_index}
use Rattle.mini_model.specs.Tree.{node_count, node_counts}
use Rattle.mini_context.specs.Tables.{mark_at}
use Rattle.mini_drop.specs.Going.{all_later}
use Rattle.mini_drop.proofs.Every.{Until}
use Rattle.mini_drop.proofs.going.+later.Given as goal

abbrev pub decreases-later_in : goal.decreases-later_in
decreases-later_in l = 2 * node_count l.node.now

abbrev pub decreases-all_later : goal.decreases-all_later
decreases-all_later l = 2 * node_counts l.nodes.now + 1

abbrev pub invariant-all_later-loop-at : goal.invariant-all_later-loop-at
invariant-all_later-loop-at l = Until (λ i ts. all_later (mark_at l.set) (slice_index l.rounds) l.round ts) l.nodes l.from l.at l.all

use Rattle.std.proofs.Common.{◌≡◌, ◌+◌, ◌*◌}
use Rattle.mini_model.specs.Tree.{node_count, node_counts}
use Rattle.mini_replay.specs.Seeking.{before}
use Rattle.mini_replay.proofs.widths.+widths.Given as goal

abbrev pub decreases-width_of : goal.decreases-width_of
decreases-width_of l = 2 * node_count l.node.now

abbrev pub decreases-widths_of : goal.decreases-widths_of
decreases-widths_of l = 2 * node_counts l.nodes.now + 1

abbrev pub invariant-widths_of-loop-at : goal.invariant-widths_of-loop-at
invariant-widths_of-loop-at l = l.total ≡ before l.nodes l.at

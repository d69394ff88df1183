use Rattle.std.proofs.Common.{◌+◌, ◌*◌}
use Rattle.mini_model.specs.Tree.{node_count, node_counts}
use Rattle.mini_drop.specs.Asked.{role_in}
use Rattle.mini_drop.proofs.Marks.{Until}
use Rattle.mini_drop.proofs.declared.+declared.Given as goal

abbrev pub decreases-mark_declared : goal.decreases-mark_declared
decreases-mark_declared l = 4 * node_count l.node.now

abbrev pub decreases-mark_below : goal.decreases-mark_below
decreases-mark_below l = 4 * node_counts l.nodes.now + 3

abbrev pub decreases-mark_part : goal.decreases-mark_part
decreases-mark_part l = 4 * node_count l.node.now + 1

abbrev pub decreases-mark_inside : goal.decreases-mark_inside
decreases-mark_inside l = 4 * node_count l.node.now

abbrev pub invariant-mark_below-loop-at : goal.invariant-mark_below-loop-at
invariant-mark_below-loop-at l = Until (role_in l.role) l.from l.at l.nodes l.initial.marks.items l.marks.items

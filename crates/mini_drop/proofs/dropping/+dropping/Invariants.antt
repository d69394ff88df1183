use Rattle.std.proofs.Common.{◌+◌, ◌*◌, ◌-◌}
use Rattle.mini_model.specs.Tree.{node_count, node_counts}
use Rattle.mini_context.specs.Tables.{mark_at}
use Rattle.mini_drop.specs.Asked.{role_in}
use Rattle.mini_drop.proofs.Walks.{Swept}
use Rattle.mini_drop.proofs.dropping.+dropping.Given as goal

abbrev pub decreases-drop_items : goal.decreases-drop_items
decreases-drop_items l = 3 * node_count l.node.now

abbrev pub decreases-drop_below : goal.decreases-drop_below
decreases-drop_below l = 3 * node_counts l.nodes.now + 2

abbrev pub decreases-drop_at : goal.decreases-drop_at
decreases-drop_at l = 3 * node_counts l.nodes.now + 1

abbrev pub invariant-drop_below-loop-passed : goal.invariant-drop_below-loop-passed
invariant-drop_below-loop-passed l = Swept (mark_at l.set) (role_in l.role) (l.count - l.passed) l.initial.nodes l.nodes l.gone

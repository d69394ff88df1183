use Rattle.std.proofs.Common.{◌+◌, ◌*◌}
use Rattle.mini_model.specs.Tree.{node_count, node_counts}
use Rattle.mini_laws.specs.DeclaredNames.{all_names}
use Rattle.mini_context.specs.Tables.{Marked}
use Rattle.mini_context.proofs.Gathering.{Until}
use Rattle.mini_context.proofs.marks.+marks.Given as goal

abbrev pub decreases-mark_names : goal.decreases-mark_names
decreases-mark_names l = 2 * node_count l.node.now

abbrev pub decreases-mark_all_names : goal.decreases-mark_all_names
decreases-mark_all_names l = 2 * node_counts l.nodes.now + 1

abbrev pub invariant-mark_all_names-loop-at : goal.invariant-mark_all_names-loop-at
invariant-mark_all_names-loop-at l = Until Marked (λ i us. all_names l.declared us) l.nodes l.at l.initial.marks.items l.marks.items

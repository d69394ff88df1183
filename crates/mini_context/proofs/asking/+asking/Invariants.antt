use Rattle.std.proofs.Common.{◌+◌, ◌*◌}
use Rattle.mini_model.specs.Tree.{children, node_count, shape_of}
use Rattle.mini_laws.specs.Bodies.{Around, below, bodies_from}
use Rattle.mini_context.specs.Asking.{Like, PutAsking}
use Rattle.mini_context.proofs.Gathering.{Until}
use Rattle.mini_context.proofs.asking.+asking.Given as goal

abbrev pub decreases-mark_asking : goal.decreases-mark_asking
decreases-mark_asking l = 2 * node_count l.node.now + 1

abbrev pub decreases-mark_below : goal.decreases-mark_below
decreases-mark_below l = 2 * node_count l.node.now

abbrev pub invariant-mark_below-loop-at : goal.invariant-mark_below-loop-at
invariant-mark_below-loop-at l = (a : Around) → Like l.around a → Until PutAsking (bodies_from (below a (shape_of l.node) (children l.node))) l.nodes l.at l.initial.marks.items l.marks.items

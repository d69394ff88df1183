use Rattle.std.proofs.Common.{◌+◌, ◌*◌}
use Rattle.mini_model.specs.Tree.{node_count, node_counts}
use Rattle.mini_laws.specs.Naming.{lets_all, summaries}
use Rattle.mini_context.specs.Holders.{TakenAll}
use Rattle.mini_context.proofs.Gathering.{Until}
use Rattle.mini_context.proofs.writable.+taking.Given as goal

abbrev pub decreases-take_lets : goal.decreases-take_lets
decreases-take_lets l = 3 * node_count l.node.now + 1

abbrev pub decreases-take_held : goal.decreases-take_held
decreases-take_held l = 3 * node_count l.node.now

abbrev pub decreases-take_at : goal.decreases-take_at
decreases-take_at l = 3 * node_counts l.nodes.now + 2

abbrev pub decreases-take_class : goal.decreases-take_class
decreases-take_class l = 3 * node_counts l.nodes.now + 2

abbrev pub decreases-take_all : goal.decreases-take_all
decreases-take_all l = 3 * node_counts l.nodes.now + 2

abbrev pub invariant-take_all-loop-at : goal.invariant-take_all-loop-at
invariant-take_all-loop-at l = Until TakenAll (λ i us. lets_all (summaries us)) l.nodes l.at l.initial.marks.items l.marks.items

use Rattle.std.proofs.Common.{◌+◌, ◌*◌}
use Rattle.mini_model.specs.Tree.{node_count, node_counts}
use Rattle.mini_context.specs.Enclosing.{all_numbers_in, PutNumbers}
use Rattle.mini_context.proofs.Gathering.{Until}
use Rattle.mini_context.proofs.params.+numbers.Given as goal

abbrev pub decreases-put_numbers : goal.decreases-put_numbers
decreases-put_numbers l = 2 * node_count l.node.now

abbrev pub decreases-put_all_numbers : goal.decreases-put_all_numbers
decreases-put_all_numbers l = 2 * node_counts l.nodes.now + 1

abbrev pub invariant-put_all_numbers-loop-at : goal.invariant-put_all_numbers-loop-at
invariant-put_all_numbers-loop-at l = Until (PutNumbers l.function) (λ i us. all_numbers_in us) l.nodes l.at l.initial.lists.items l.lists.items

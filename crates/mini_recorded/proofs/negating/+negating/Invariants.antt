use Rattle.std.proofs.Common.{◌≡◌, ◌+◌, ◌*◌}
use Rattle.mini_model.specs.Position.{operand_seat}
use Rattle.mini_model.specs.Terms.{neg_each}
use Rattle.mini_model.specs.Tree.{node_count, node_counts}
use Rattle.mini_node.specs.Children.{first_children}
use Rattle.mini_recorded.proofs.negating.+negating.Given as goal

abbrev pub decreases-negation_of : goal.decreases-negation_of
decreases-negation_of l = 3 * node_count l.node.now + 1

abbrev pub decreases-turned : goal.decreases-turned
decreases-turned l = 3 * node_count l.node.now

abbrev pub decreases-negated_operands : goal.decreases-negated_operands
decreases-negated_operands l = 3 * node_counts l.operands.now + 2

abbrev pub invariant-negated_operands-loop-at : goal.invariant-negated_operands-loop-at
invariant-negated_operands-loop-at l = l.negated ≡ neg_each (operand_seat l.operator l.seat) (first_children l.at l.operands)

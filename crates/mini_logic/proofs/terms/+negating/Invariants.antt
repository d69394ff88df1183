use Rattle.std.proofs.Common.{◌≡◌, ◌+◌, ◌*◌}
use Rattle.mini_model.specs.Tree.{node_count, node_counts}
use Rattle.mini_model.specs.Position.{operand_seat}
use Rattle.mini_logic.specs.Negating.{first_negated}
use Rattle.mini_logic.proofs.terms.+negating.Given as goal

abbrev pub decreases-negated : goal.decreases-negated
decreases-negated l = 3 * node_count l.expression + 1

abbrev pub decreases-turned : goal.decreases-turned
decreases-turned l = 3 * node_count l.expression

abbrev pub decreases-negate_each : goal.decreases-negate_each
decreases-negate_each l = 3 * node_counts l.operands.now + 2

abbrev pub invariant-negate_each-loop-at : goal.invariant-negate_each-loop-at
invariant-negate_each-loop-at l = l.operands ≡ first_negated (operand_seat l.operator l.seat) l.at l.fn.operands

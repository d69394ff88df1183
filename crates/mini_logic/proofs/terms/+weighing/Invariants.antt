use Rattle.std.proofs.Common.{◌≡◌, ◌+◌, ◌*◌, ◌≤◌, drop}
use Rattle.mini_model.specs.declared.place.Position.TheVariants.{Expr}
use Rattle.mini_model.specs.Tree.{node_count}
use Rattle.mini_model.specs.Position.{operand_seat}
use Rattle.mini_model.specs.Weight.{capped, weight}
use Rattle.mini_node.specs.Children.{trees_of}
use Rattle.mini_logic.specs.Negating.{turned_over}
use Rattle.mini_logic.proofs.Weights.{negations_from}
use Rattle.mini_logic.proofs.terms.+weighing.Given as goal

abbrev pub decreases-neg_weight : goal.decreases-neg_weight
decreases-neg_weight l = 2 * node_count l.expression.now + 1

abbrev pub decreases-turned_weight : goal.decreases-turned_weight
decreases-turned_weight l = 2 * node_count l.expression.now

abbrev pub invariant-turned_weight-loop-child : goal.invariant-turned_weight-loop-child
invariant-turned_weight-loop-child l = record {
  place : l.at ≡ l.child-index;
  total : capped (l.total + negations_from (operand_seat l.operator l.seat) l.at (trees_of (drop l.child-index l.child-items))) ≡ capped (weight (Expr l.seat) (turned_over l.operator l.seat l.expression));
  within : l.total ≤ 18446744073709551615;
}

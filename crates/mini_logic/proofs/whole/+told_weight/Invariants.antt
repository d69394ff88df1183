use Rattle.mini_model.specs.Tree.{node_count}
use Rattle.mini_logic.proofs.whole.+told_weight.Given as goal

abbrev pub decreases-told_weight : goal.decreases-told_weight
decreases-told_weight l = node_count l.expression.now

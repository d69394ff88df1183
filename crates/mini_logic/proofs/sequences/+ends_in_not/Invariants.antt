use Rattle.mini_model.specs.Tree.{node_count}
use Rattle.mini_logic.proofs.sequences.+ends_in_not.Given as goal

abbrev pub decreases-ends_in_not : goal.decreases-ends_in_not
decreases-ends_in_not l = node_count l.expression.now

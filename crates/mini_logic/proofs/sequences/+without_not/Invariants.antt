use Rattle.mini_model.specs.Tree.{node_count}
use Rattle.mini_logic.proofs.sequences.+without_not.Given as goal

abbrev pub decreases-without_not : goal.decreases-without_not
decreases-without_not l = node_count l.expression

use Rattle.mini_model.specs.Tree.{node_count}
use Rattle.mini_logic.proofs.sequences.+end_of.Given as goal

abbrev pub decreases-end_of : goal.decreases-end_of
decreases-end_of l = node_count l.node.now

use Rattle.mini_model.specs.Tree.{node_counts}
use Rattle.mini_logic.proofs.sequences.+split_end.Given as goal

abbrev pub decreases-split_end : goal.decreases-split_end
decreases-split_end l = node_counts l.parts

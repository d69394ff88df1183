use Rattle.mini_model.specs.Tree.{node_count}
use Rattle.mini_steady.proofs.leaving.+begins_at.Given as goal

abbrev pub decreases-begins_at : goal.decreases-begins_at
decreases-begins_at l = node_count l.node.now

use Rattle.mini_model.specs.Tree.{node_count}
use Rattle.mini_choices.proofs.rewrites.fold_chain_expr.+ends_at_once.Given as goal

abbrev pub decreases-ends_at_once : goal.decreases-ends_at_once
decreases-ends_at_once l = node_count l.node.now

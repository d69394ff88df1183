use Rattle.mini_model.specs.Tree.{node_count}
use Rattle.mini_choices.proofs.rewrites.fold_chain_expr.+base.Given as goal

abbrev pub decreases-base : goal.decreases-base
decreases-base l = node_count l.node.now

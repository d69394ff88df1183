use Rattle.mini_model.specs.Tree.{node_count}
use Rattle.mini_choices.proofs.rewrites.fold_chain_expr.+taken_base.Given as goal

abbrev pub decreases-taken_base : goal.decreases-taken_base
decreases-taken_base l = node_count l.node

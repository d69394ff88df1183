use Rattle.mini_model.specs.Tree.{node_count}
use Rattle.mini_choices.proofs.rewrites.fold_chain_expr.+links_enclose.Given as goal

abbrev pub decreases-links_enclose : goal.decreases-links_enclose
decreases-links_enclose l = node_count l.node.now

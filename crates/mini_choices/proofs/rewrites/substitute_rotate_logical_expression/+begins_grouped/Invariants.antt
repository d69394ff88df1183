use Rattle.mini_model.specs.Tree.{node_count}
use Rattle.mini_choices.proofs.rewrites.substitute_rotate_logical_expression.+begins_grouped.Given as goal

abbrev pub decreases-begins_grouped : goal.decreases-begins_grouped
decreases-begins_grouped l = node_count l.node.now

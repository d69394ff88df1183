use Rattle.mini_model.specs.Tree.{node_count}
use Rattle.mini_choices.proofs.rewrites.substitute_rotate_logical_expression.+rotated_over.Given as goal

abbrev pub decreases-rotated_over : goal.decreases-rotated_over
decreases-rotated_over l = node_count l.operands

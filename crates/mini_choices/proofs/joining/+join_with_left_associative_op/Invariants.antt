use Rattle.mini_model.specs.Tree.{node_count}
use Rattle.mini_choices.proofs.joining.+join_with_left_associative_op.Given as goal

abbrev pub decreases-join_with_left_associative_op : goal.decreases-join_with_left_associative_op
decreases-join_with_left_associative_op l = node_count l.second

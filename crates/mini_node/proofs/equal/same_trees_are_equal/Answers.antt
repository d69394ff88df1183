use Rattle.mini_node.proofs.Equality.{tree_same, tree_itself}
use Rattle.mini_node.proofs.equal.same_trees_are_equal.Goals as goal

pub returns-clause-equal : goal.returns-clause-equal
returns-clause-equal c = tree_same

pub returns-clause-itself : goal.returns-clause-itself
returns-clause-itself c = tree_itself

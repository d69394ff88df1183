use Rattle.std.proofs.Common.{◌≡◌}
use Rattle.mini_node.specs.Children.{rest_children}
use Rattle.mini_node.specs.Equal.{same_trees}
use Rattle.mini_choices.specs.Calling.{are_others_same}
use Rattle.mini_choices.proofs.calling.are_others_same.Given as goal

abbrev pub invariant-loop-at : goal.invariant-loop-at
invariant-loop-at l = same_trees (rest_children l.at l.first) (rest_children l.at l.second) ≡ are_others_same l.first l.second

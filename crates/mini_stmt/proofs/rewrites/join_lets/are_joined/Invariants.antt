use Rattle.std.proofs.Common.{◌≡◌}
use Rattle.mini_node.specs.Children.{rest_children}
use Rattle.mini_stmt.specs.JoinLets.{marked, are_joined}
use Rattle.mini_stmt.proofs.rewrites.join_lets.are_joined.Given as goal

abbrev pub invariant-loop-at : goal.invariant-loop-at
invariant-loop-at l = are_joined (marked l.scopes) (rest_children l.at l.list) ≡ are_joined (marked l.scopes) l.list

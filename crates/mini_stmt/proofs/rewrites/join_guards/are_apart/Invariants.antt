use Rattle.std.proofs.Common.{◌≡◌}
use Rattle.mini_node.specs.Children.{rest_children}
use Rattle.mini_stmt.specs.JoinGuards.{are_apart}
use Rattle.mini_stmt.proofs.rewrites.join_guards.are_apart.Given as goal

abbrev pub invariant-loop-at : goal.invariant-loop-at
invariant-loop-at l = are_apart (rest_children l.at l.list) ≡ are_apart l.list

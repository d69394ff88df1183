use Rattle.std.proofs.Common.{◌≡◌}
use Rattle.mini_node.specs.Children.{rest_children}
use Rattle.mini_stmt.specs.MinimizeStatements.{switches_of}
use Rattle.mini_stmt.specs.JoinAssignments.{are_entered}
use Rattle.mini_stmt.proofs.rewrites.join_assignments.are_entered.Given as goal

abbrev pub invariant-loop-at : goal.invariant-loop-at
invariant-loop-at l = are_entered (switches_of l.options) (rest_children l.at l.list) ≡ are_entered (switches_of l.options) l.list

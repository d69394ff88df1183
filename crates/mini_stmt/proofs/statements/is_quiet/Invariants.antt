use Rattle.std.proofs.Common.{◌≡◌}
use Rattle.mini_node.specs.Children.{rest_children}
use Rattle.mini_stmt.specs.MinimizeStatements.{switches_of, is_quiet_after, is_quiet}
use Rattle.mini_stmt.proofs.statements.is_quiet.Given as goal

abbrev pub invariant-loop-at : goal.invariant-loop-at
invariant-loop-at l = is_quiet_after (switches_of l.options) l.lead (rest_children l.at l.list) ≡ is_quiet (switches_of l.options) l.list

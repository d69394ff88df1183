use Rattle.std.proofs.Common.{◌≡◌}
use Rattle.mini_node.specs.Children.{rest_children}
use Rattle.mini_rows.specs.Lists.{are_unscoped}
use Rattle.mini_recorded.proofs.statements.are_unscoped.Given as goal

abbrev pub invariant-loop-at : goal.invariant-loop-at
invariant-loop-at l = are_unscoped (rest_children l.at l.nodes) ≡ are_unscoped l.nodes

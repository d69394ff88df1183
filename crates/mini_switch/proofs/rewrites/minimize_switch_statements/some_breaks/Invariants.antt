use Rattle.std.proofs.Common.{◌≡◌, false}
use Rattle.mini_node.specs.Children.{first_children}
use Rattle.mini_switch.specs.MinimizeSwitchStatements.{some_breaks}
use Rattle.mini_switch.proofs.rewrites.minimize_switch_statements.some_breaks.Given as goal

abbrev pub invariant-loop-at : goal.invariant-loop-at
invariant-loop-at l = some_breaks (first_children l.at l.nodes) ≡ false

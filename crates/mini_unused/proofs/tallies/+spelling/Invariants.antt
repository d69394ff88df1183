use Rattle.std.proofs.Common.{◌≡◌}
use Rattle.mini_node.specs.Children.{rest_children}
use Rattle.mini_unused.specs.Tallies.{is_any_spelled}
use Rattle.mini_unused.proofs.tallies.+spelling.Given as goal

abbrev pub invariant-is_any_spelled-loop-at : goal.invariant-is_any_spelled-loop-at
invariant-is_any_spelled-loop-at l = is_any_spelled l.fn.name (rest_children l.fn.from l.fn.nodes) ≡ is_any_spelled l.fn.name (rest_children l.at l.fn.nodes)

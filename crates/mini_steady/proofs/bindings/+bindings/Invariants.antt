use Rattle.std.proofs.Common.{◌≡◌}
use Rattle.mini_node.specs.Children.{rest_children}
use Rattle.mini_rows.specs.Past.{any_bind}
use Rattle.mini_steady.proofs.bindings.+bindings.Given as goal

abbrev pub invariant-any_bind-loop-at : goal.invariant-any_bind-loop-at
invariant-any_bind-loop-at l = any_bind l.fn.symbol.0 l.fn.nodes ≡ any_bind l.fn.symbol.0 (rest_children l.at l.fn.nodes)

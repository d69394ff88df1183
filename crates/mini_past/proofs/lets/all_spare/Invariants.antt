use Rattle.std.proofs.Common.{◌≡◌, true}
use Rattle.mini_node.specs.Children.{first_children}
use Rattle.mini_rows.specs.Past.{all_of, spares}
use Rattle.mini_past.proofs.lets.all_spare.Given as goal

abbrev pub invariant-loop-at : goal.invariant-loop-at
invariant-loop-at l = all_of (spares l.fn.symbol.0) (first_children l.at l.fn.nodes) ≡ true

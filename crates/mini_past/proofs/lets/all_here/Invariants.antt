use Rattle.std.proofs.Common.{◌≡◌, true}
use Rattle.mini_node.specs.Children.{first_children}
use Rattle.mini_rows.specs.Past.{all_of, lets_here}
use Rattle.mini_past.proofs.lets.all_here.Given as goal

abbrev pub invariant-loop-at : goal.invariant-loop-at
invariant-loop-at l = all_of (lets_here l.fn.symbol.0) (first_children l.at l.fn.statements) ≡ true

use Rattle.std.proofs.Common.{◌≡◌, ◌+◌}
use Rattle.mini_node.specs.Children.{rest_children}
use Rattle.mini_recorded.specs.Declaring.{place_of}
use Rattle.mini_recorded.proofs.declarations.first_undefined.Given as goal

abbrev pub invariant-loop-at : goal.invariant-loop-at
invariant-loop-at l = l.at + place_of (rest_children l.at l.declarators) ≡ place_of l.declarators

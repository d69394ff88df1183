use Rattle.std.proofs.Common.{◌≡◌, true}
use Rattle.mini_node.specs.Children.{first_children}
use Rattle.mini_steady.specs.Leaving.{all_leave}
use Rattle.mini_steady.proofs.leaving.leave_before.Given as goal

abbrev pub invariant-loop-at : goal.invariant-loop-at
invariant-loop-at l = all_leave l.fn.object (first_children l.at l.fn.nodes) ≡ true

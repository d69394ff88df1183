use Rattle.std.proofs.Common.{◌≡◌, true}
use Rattle.mini_node.specs.Children.{first_children}
use Rattle.mini_unused.specs.SubstituteSingleUse.{all_pass}
use Rattle.mini_unused.proofs.passing.all_pass.Given as goal

abbrev pub invariant-loop-at : goal.invariant-loop-at
invariant-loop-at l = all_pass l.fn.gathered l.fn.init l.fn.shape 0 (first_children l.at l.fn.nodes) ≡ true

use Rattle.std.proofs.Common.{◌≡◌}
use Rattle.mini_model.specs.Tree.{count}
use Rattle.mini_model.specs.Paths.{append}
use Rattle.mini_node.specs.Children.{rest_children}
use Rattle.mini_held.specs.Parts.{left_after}
use Rattle.mini_held.proofs.parts.left_of.Given as goal

abbrev pub invariant-loop-at : goal.invariant-loop-at
invariant-loop-at g l = (count l.parts ≡ count l.fn.parts) × (rest_children l.at l.parts ≡ rest_children l.at l.fn.parts) × (append l.left (left_after g.I.IdleParts.idle (count l.left) (rest_children l.at l.fn.parts)) ≡ left_after g.I.IdleParts.idle 0 l.fn.parts)

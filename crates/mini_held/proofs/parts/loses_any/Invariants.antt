use Rattle.std.proofs.Common.{◌≡◌}
use Rattle.mini_node.specs.Children.{rest_children}
use Rattle.mini_held.specs.Parts.{idle_before_last}
use Rattle.mini_held.proofs.parts.loses_any.Given as goal

abbrev pub invariant-loop-at : goal.invariant-loop-at
invariant-loop-at g l = idle_before_last g.I.IdleParts.idle (rest_children l.at l.parts) ≡ idle_before_last g.I.IdleParts.idle l.parts

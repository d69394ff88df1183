use Rattle.std.proofs.Common.{◌≡◌, take}
use Rattle.mini_scope.proofs.targets.copy_labels.Given as goal

abbrev pub invariant-loop-label : goal.invariant-loop-label
invariant-loop-label l = l.copy ≡ take l.label-index l.label-items

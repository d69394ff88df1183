use Rattle.std.proofs.Common.{◌≡◌, ◌+◌, ◌≤◌, drop}
use Rattle.mini_model.specs.Weight.{capped, directives_weight}
use Rattle.mini_tree.proofs.own.directives_weight.Given as goal

abbrev pub invariant-loop-directive : goal.invariant-loop-directive
invariant-loop-directive l =
    (capped (l.total + directives_weight (drop l.directive-index l.directive-items)) ≡ capped (directives_weight l.directives))
    × (l.total ≤ 18446744073709551615)

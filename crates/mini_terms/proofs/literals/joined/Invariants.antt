use Rattle.std.proofs.Common.{◌≡◌, ◌++◌, take}
use Rattle.mini_terms.proofs.literals.joined.Given as goal

abbrev pub invariant-loop-unit : goal.invariant-loop-unit
invariant-loop-unit l = l.left ≡ l.initial.left ++ take l.unit-index l.unit-items

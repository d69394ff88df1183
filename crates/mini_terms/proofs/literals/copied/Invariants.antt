use Rattle.std.proofs.Common.{◌≡◌, take}
use Rattle.mini_terms.proofs.literals.copied.Given as goal

abbrev pub invariant-loop-unit : goal.invariant-loop-unit
invariant-loop-unit l = l.copy ≡ take l.unit-index l.units

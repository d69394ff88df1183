use Rattle.std.proofs.Common.{◌≡◌, drop}
use Rattle.mini_terms.specs.Texts.{capped, IsSafe, read_on}
use Rattle.mini_terms.proofs.texts.read_digits.Given as goal

abbrev pub invariant-loop-unit : goal.invariant-loop-unit
invariant-loop-unit l = IsSafe l.number × (read_on l.base l.number (drop l.unit-index l.units) ≡ read_on l.base (capped 0) l.units)

use Rattle.std.proofs.Common.{◌≡◌, ◌++◌, take}
use Rattle.mini_tokens.proofs.text.push_units.Given as goal

abbrev pub invariant-loop-unit : goal.invariant-loop-unit
invariant-loop-unit l = l.text ≡ l.initial.text ++ take l.unit-index l.units

use Rattle.std.proofs.Common.{◌≡◌, drop}
use Rattle.mini_print.specs.Text.{are_letters}
use Rattle.mini_tokens.proofs.writable.are_letters.Given as goal

abbrev pub invariant-loop-unit : goal.invariant-loop-unit
invariant-loop-unit l = are_letters (drop l.unit-index l.units) ≡ are_letters l.units

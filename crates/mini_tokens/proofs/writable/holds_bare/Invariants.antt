use Rattle.std.proofs.Common.{◌≡◌, false, drop}
use Rattle.mini_print.specs.Unprintable.{holds_bare}
use Rattle.mini_tokens.proofs.writable.holds_bare.Given as goal

abbrev pub invariant-loop-unit : goal.invariant-loop-unit
invariant-loop-unit l = holds_bare l.sought l.escaped (drop l.unit-index l.units) ≡ holds_bare l.sought false l.units

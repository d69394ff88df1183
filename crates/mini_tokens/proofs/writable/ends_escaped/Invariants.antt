use Rattle.std.proofs.Common.{◌≡◌, false, drop}
use Rattle.mini_print.specs.Unprintable.{ends_escaped}
use Rattle.mini_tokens.proofs.writable.ends_escaped.Given as goal

abbrev pub invariant-loop-unit : goal.invariant-loop-unit
invariant-loop-unit l = ends_escaped l.escaped (drop l.unit-index l.units) ≡ ends_escaped false l.units

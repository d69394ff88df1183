use Rattle.std.proofs.Common.{◌≡◌, false, drop}
use Rattle.mini_print.specs.Unprintable.{is_raw}
use Rattle.mini_tokens.proofs.writable.is_raw.Given as goal

abbrev pub invariant-loop-at : goal.invariant-loop-at
invariant-loop-at l = is_raw l.escaped (drop l.at l.units) ≡ is_raw false l.units

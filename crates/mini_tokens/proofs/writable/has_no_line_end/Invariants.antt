use Rattle.std.proofs.Common.{◌≡◌, drop}
use Rattle.mini_print.specs.Text.{has_no_line_end}
use Rattle.mini_tokens.proofs.writable.has_no_line_end.Given as goal

abbrev pub invariant-loop-unit : goal.invariant-loop-unit
invariant-loop-unit l = has_no_line_end (drop l.unit-index l.units) ≡ has_no_line_end l.units

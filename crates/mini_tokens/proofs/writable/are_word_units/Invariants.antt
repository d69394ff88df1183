use Rattle.std.proofs.Common.{◌≡◌, drop}
use Rattle.mini_print.specs.Text.{are_word_units}
use Rattle.mini_tokens.proofs.writable.are_word_units.Given as goal

abbrev pub invariant-loop-unit : goal.invariant-loop-unit
invariant-loop-unit l = are_word_units (drop l.unit-index l.units) ≡ are_word_units l.units

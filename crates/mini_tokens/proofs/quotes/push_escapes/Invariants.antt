-- What was pushed, with the spelling of what is left, spells the whole text.
use Rattle.std.proofs.Common.{◌≡◌, ◌++◌, drop}
use Rattle.mini_print.specs.Text.{escaped}
use Rattle.mini_tokens.proofs.quotes.push_escapes.Given as goal

abbrev pub invariant-loop-unit : goal.invariant-loop-unit
invariant-loop-unit l = l.text ++ escaped (drop l.unit-index l.units) ≡ l.initial.text ++ escaped l.units

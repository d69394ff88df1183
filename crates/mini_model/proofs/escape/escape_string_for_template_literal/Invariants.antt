-- What was pushed, with the spelling of what is left, spells the whole text.
use Rattle.std.proofs.Common.{◌≡◌, ◌++◌, drop}
use Rattle.mini_model.specs.Templates.{escaped}
use Rattle.mini_model.proofs.escape.escape_string_for_template_literal.Given as goal

abbrev pub invariant-loop-unit : goal.invariant-loop-unit
invariant-loop-unit l = l.raw ++ escaped (drop l.unit-index l.value) ≡ escaped l.value

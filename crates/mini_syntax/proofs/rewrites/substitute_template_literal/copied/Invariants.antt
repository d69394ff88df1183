use Rattle.std.proofs.Common.{◌≡◌, take}
use Rattle.mini_syntax.proofs.rewrites.substitute_template_literal.copied.Given as goal

abbrev pub invariant-loop-unit : goal.invariant-loop-unit
invariant-loop-unit l = l.copy ≡ take l.unit-index l.units

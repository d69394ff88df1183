use Rattle.std.proofs.Common.{◌≡◌, drop}
use Rattle.mini_laws.specs.Strict.{has_use_strict}
use Rattle.mini_context.proofs.strictness.has_use_strict.Given as goal

abbrev pub invariant-loop-directive : goal.invariant-loop-directive
invariant-loop-directive l = has_use_strict l.directives ≡ has_use_strict (drop l.directive-index l.directives)

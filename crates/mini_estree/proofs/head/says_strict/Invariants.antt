use Rattle.std.proofs.Common.{◌≡◌, drop}
use Rattle.mini_accept.specs.WellShaped.{has_use_strict}
use Rattle.mini_estree.proofs.head.says_strict.Given as goal

abbrev pub invariant-loop-text : goal.invariant-loop-text
invariant-loop-text l = has_use_strict l.directives ≡ has_use_strict (drop l.text-index l.text-items)

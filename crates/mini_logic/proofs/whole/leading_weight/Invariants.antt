use Rattle.std.proofs.Common.{◌≡◌}
use Rattle.mini_model.specs.Weight.{capped}
use Rattle.mini_logic.specs.MinimizeNegation.{leading}
use Rattle.mini_logic.proofs.whole.leading_weight.Given as goal

abbrev pub invariant-loop-at : goal.invariant-loop-at
invariant-loop-at l = l.total ≡ capped (leading l.at l.parts)

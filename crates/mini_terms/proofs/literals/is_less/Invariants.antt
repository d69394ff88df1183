use Rattle.std.proofs.Common.{◌≡◌, drop}
use Rattle.mini_laws.specs.Operators.{is_text_less}
use Rattle.mini_terms.proofs.literals.is_less.Given as goal

abbrev pub invariant-loop-at : goal.invariant-loop-at
invariant-loop-at l = is_text_less (drop l.at l.left) (drop l.at l.right) ≡ is_text_less l.left l.right

use Rattle.std.specs.Prelude.{None}
use Rattle.mini_unused.proofs.Unused.{SoFar}
use Rattle.mini_past.specs.SubstitutePast.{PastNextOf}
use Rattle.mini_past.proofs.next_declarators.next_at.Given as goal

abbrev pub invariant-loop-at : goal.invariant-loop-at
invariant-loop-at g l = SoFar (λ i. PastNextOf (g.S.SteadyNames.sets l.fn.steady l.fn.body) (g.S.PastNames.lets l.fn.steady) l.fn.outside l.fn.statements i None) l.at

use Rattle.std.proofs.Common.{◌≡◌, false}
use Rattle.mini_unused.proofs.Unused.{SoFar}
use Rattle.mini_past.specs.SubstitutePast.{is_past}
use Rattle.mini_past.proofs.searching.past_at.Given as goal

abbrev pub invariant-loop-at : goal.invariant-loop-at
invariant-loop-at g l = SoFar (λ i. is_past (g.S.SteadyNames.sets l.fn.steady l.fn.body) (g.S.PastNames.lets l.fn.steady) l.fn.outside l.fn.statements i ≡ false) l.at

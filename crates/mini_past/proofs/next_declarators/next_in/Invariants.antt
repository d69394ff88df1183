use Rattle.std.proofs.Common.{◌≡◌, false}
use Rattle.mini_unused.proofs.Unused.{SoFar}
use Rattle.mini_past.specs.SubstitutePast.{is_past_by_next}
use Rattle.mini_past.proofs.next_declarators.next_in.Given as goal

abbrev pub invariant-loop-which : goal.invariant-loop-which
invariant-loop-which g l = SoFar (λ j. is_past_by_next (g.S.SteadyNames.sets l.fn.steady l.fn.body) l.fn.is_free (g.S.PastNames.lets l.fn.steady) l.fn.list j l.fn.outside l.fn.statements l.fn.at ≡ false) l.which

use Rattle.std.proofs.Common.{length, ◌≡◌, ◌≤◌, take}
use Rattle.mini_terms.proofs.TextNumbers.{cut}
use Rattle.mini_terms.proofs.texts.end_of.Given as goal

abbrev pub invariant-loop-end : goal.invariant-loop-end
invariant-loop-end l = (l.end ≤ length l.units) × (cut (take l.end l.units) ≡ cut l.units)

abbrev pub decreases-loop-end : goal.decreases-loop-end
decreases-loop-end l = l.end

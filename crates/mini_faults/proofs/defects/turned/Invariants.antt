use Rattle.std.proofs.Common.{◌≡◌, ◌++◌, length}
use Rattle.std.specs.Prelude.{reverse}
use Rattle.mini_faults.proofs.defects.turned.Given as goal

abbrev pub invariant-loop-index : goal.invariant-loop-index
invariant-loop-index l = l.path ++ reverse l.back ≡ reverse l.fn.back

abbrev pub decreases-loop-index : goal.decreases-loop-index
decreases-loop-index l = length l.back

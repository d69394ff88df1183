use Rattle.std.specs.Prelude.{None}
use Rattle.mini_unused.specs.RemoveUnusedDeclaration.{allowed, open_in, UnusedOf}
use Rattle.mini_unused.proofs.Unused.{SoFar}
use Rattle.mini_unused.proofs.declarations.unused_at.Given as goal

abbrev pub invariant-loop-at : goal.invariant-loop-at
invariant-loop-at l = SoFar (λ i. UnusedOf (open_in l.fn.outside (allowed l.fn.context)) l.fn.outside l.fn.statements i None) l.at

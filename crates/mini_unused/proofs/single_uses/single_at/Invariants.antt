use Rattle.std.proofs.Common.{◌≡◌, false}
use Rattle.mini_unused.specs.RemoveUnusedDeclaration.{allowed, open_in}
use Rattle.mini_unused.specs.SubstituteSingleUse.{is_single}
use Rattle.mini_unused.proofs.Unused.{SoFar}
use Rattle.mini_unused.proofs.single_uses.single_at.Given as goal

abbrev pub invariant-loop-at : goal.invariant-loop-at
invariant-loop-at l = SoFar (λ i. is_single (open_in l.fn.outside (allowed l.fn.context)) l.fn.outside l.fn.statements i ≡ false) l.at

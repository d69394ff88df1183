use Rattle.std.proofs.Common.{◌≡◌, false}
use Rattle.mini_unused.specs.RemoveUnusedDeclaration.{allowed, open_in}
use Rattle.mini_unused.specs.SubstituteNext.{is_read_by_next}
use Rattle.mini_unused.proofs.Unused.{SoFar}
use Rattle.mini_unused.proofs.next_uses.next_in.Given as goal

abbrev pub invariant-loop-which : goal.invariant-loop-which
invariant-loop-which l = SoFar (λ j. is_read_by_next l.fn.is_free (open_in l.fn.outside (allowed l.fn.context)) l.fn.list j l.fn.outside l.fn.statements l.fn.at ≡ false) l.which

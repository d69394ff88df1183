use Rattle.std.proofs.Common.{◌≡◌, false}
use Rattle.mini_unused.specs.RemoveUnusedDeclaration.{allowed, open_in, is_unused_declarator}
use Rattle.mini_unused.proofs.Unused.{SoFar}
use Rattle.mini_unused.proofs.declarations.unused_in.Given as goal

abbrev pub invariant-loop-which : goal.invariant-loop-which
invariant-loop-which l = SoFar (λ j. is_unused_declarator l.fn.is_free (open_in l.fn.outside (allowed l.fn.context)) l.fn.list j l.fn.outside l.fn.statements l.fn.at ≡ false) l.which

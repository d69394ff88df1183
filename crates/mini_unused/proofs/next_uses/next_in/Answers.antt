use Rattle.std.proofs.Common.{◌≡◌, false, sym, arith}
use Rattle.mini_unused.specs.RemoveUnusedDeclaration.{allowed, open_in}
use Rattle.mini_unused.specs.SubstituteNext.{is_read_by_next}
use Rattle.mini_unused.proofs.Unused.{so_far_on}
use Rattle.mini_unused.proofs.next_uses.next_in.Goals as goal

pub loop-which-preserved : goal.loop-which-preserved
loop-which-preserved c = so_far_on (λ j. is_read_by_next c.args.is_free (open_in c.args.outside.now (allowed c.args.context.now)) c.args.list.now j c.args.outside.now c.args.statements.now c.args.at ≡ false) c.loop-which.which _ (omega arith) (sym c.if-is_read_by_next.ensures) c.loop-which.invariant

use Rattle.std.proofs.Common.{◌≡◌, false, sym, arith}
use Rattle.mini_unused.specs.RemoveUnusedDeclaration.{allowed, open_in}
use Rattle.mini_unused.specs.SubstituteSingleUse.{is_single}
use Rattle.mini_unused.proofs.Unused.{so_far_on}
use Rattle.mini_unused.proofs.single_uses.single_at.Goals as goal

pub loop-at-preserved : goal.loop-at-preserved
loop-at-preserved c = so_far_on (λ i. is_single (open_in c.args.outside.now (allowed c.args.context.now)) c.args.outside.now c.args.statements.now i ≡ false) c.loop-at.at _ (omega arith) (sym c.if-is_single.ensures.single) c.loop-at.invariant

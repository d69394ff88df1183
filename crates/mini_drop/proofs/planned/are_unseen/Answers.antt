use Rattle.std.proofs.Common.{subst, arith}
use Rattle.mini_context.specs.Tables.{mark_at}
use Rattle.mini_drop.specs.Symbols.{Unseen}
use Rattle.mini_drop.proofs.Symbols.{none_unseen, one_unseen}
use Rattle.mini_drop.proofs.planned.are_unseen.Goals as goal

pub loop-symbol-init : goal.loop-symbol-init
loop-symbol-init c = none_unseen (mark_at c.args.set.now) c.args.context.now.scopes

pub loop-symbol-preserved : goal.loop-symbol-preserved
loop-symbol-preserved c = one_unseen (mark_at c.args.set.now) c.args.context.now.scopes c.loop-symbol.symbol c.loop-symbol.unseen _ c.is_unseen-unseen.ensures c.loop-symbol.invariant

pub returns : goal.returns
returns c = λ e. subst (Unseen (mark_at c.args.set.now) c.args.context.now.scopes) (omega arith) (c.loop-symbol.invariant e)

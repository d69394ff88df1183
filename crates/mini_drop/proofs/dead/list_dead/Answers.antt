use Rattle.std.proofs.Common.{ap, sym, ◌∙◌, subst, arith}
use Rattle.mini_drop.specs.Symbols.{ListsDead, dead_by}
use Rattle.mini_drop.proofs.Symbols.{none_listed, one_listed}
use Rattle.mini_drop.proofs.dead.list_dead.Goals as goal

pub loop-symbol-init : goal.loop-symbol-init
loop-symbol-init c = subst (ListsDead c.args.context.now.scopes c.args.declared.now 0) (sym c.new-dead.ensures.items) (none_listed c.args.context.now.scopes c.args.declared.now)

pub loop-symbol-preserved : goal.loop-symbol-preserved
loop-symbol-preserved c =
    one_listed c.args.context.now.scopes c.args.declared.now c.loop-symbol.symbol c.loop-symbol.dead.items _ _ c.in_ok-push.ensures (c.is_dead-mark.ensures ∙ ap (dead_by c.args.context.now.scopes c.loop-symbol.symbol) c.is_marked.ensures) c.loop-symbol.invariant

pub returns : goal.returns
returns c = subst (λ n. ListsDead c.args.context.now.scopes c.args.declared.now n c.loop-symbol.dead.items) (omega arith) c.loop-symbol.invariant

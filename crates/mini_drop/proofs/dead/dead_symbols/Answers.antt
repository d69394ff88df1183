use Rattle.std.proofs.Common.{subst}
use Rattle.std.proofs.lemmas.Result.{IfOk-weaker}
use Rattle.mini_drop.specs.Symbols.{ListsDead}
use Rattle.mini_drop.proofs.Symbols.{all_listed}
use Rattle.mini_drop.proofs.dead.dead_symbols.Goals as goal

pub returns : goal.returns
returns c =
    IfOk-weaker c.list_dead.result _ _
    (λ dead w. all_listed c.counts_tell.ensures c.args.context.now c.args.program.now c.requires c.in_ok-room.room _ _ dead.items c.in_ok-room.ensures c.in_ok-declared.ensures c.mark_declared.ensures (subst (λ us. ListsDead c.args.context.now.scopes us c.in_ok-room.room dead.items) c.as_slice.ensures.value w))
    c.list_dead.ensures

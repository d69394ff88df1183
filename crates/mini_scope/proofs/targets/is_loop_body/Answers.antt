use Rattle.std.proofs.Common.{◌≡◌, ◌≤◌, ◌∙◌, ap, sym, arith, false, refl}
use Rattle.mini_model.specs.Tree.{absent, count}
use Rattle.mini_laws.specs.Early.{is_loop}
use Rattle.mini_scope.proofs.EarlyWalk.{missing, lower}
use Rattle.mini_scope.proofs.targets.is_loop_body.Goals as goal

no_loop : is_loop absent ≡ false
unfolding is_loop
no_loop = refl

pub returns-else-len-gt1 : goal.returns-else-len-gt1
returns-else-len-gt1 c =
    let over : count c.args.nodes.now ≤ 1 = omega arith in
    lower 1 c.len.result c.if-len-gt1.false ∙ sym (ap is_loop (missing c.args.nodes.now 1 over) ∙ no_loop)

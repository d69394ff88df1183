use Rattle.std.proofs.Common.{◌≡◌, ◌∙◌, suc, arith}
use Rattle.std.proofs.lemmas.Result.{on_ok_weaker}
use Rattle.mini_context.proofs.Enclosing.{one_enclosed}
use Rattle.mini_context.proofs.params.add_params.Goals as goal

pub returns : goal.returns
returns c =
    let old = c.args.params.now in
    let next : c.in-Some.next ≡ suc old.next = omega (arith, c.in-Some.ensures) in
    on_ok_weaker _ (one_enclosed c.args.node.now c.as_slice.result.now old _ (c.as_slice.ensures.value ∙ c.in_ok-names.ensures) next c.in_ok-put_names.ensures) c.put_numbers.ensures

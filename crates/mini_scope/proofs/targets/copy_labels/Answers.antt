use Rattle.std.proofs.Common.{◌∙◌, ap}
use Rattle.std.proofs.lemmas.List.{take_all}
use Rattle.mini_laws.specs.declared.names.Label.{Label}
use Rattle.mini_scope.proofs.Copies.{item_turn}
use Rattle.mini_scope.proofs.targets.copy_labels.Goals as goal

pub loop-label-preserved : goal.loop-label-preserved
loop-label-preserved c =
    let label = c.label-item.result in
    let copy : Label = record { name = c.in_ok-copy_text.field-0; is_loop = label.is_loop } in
    item_turn c.as_slice-label-items.result.now c.loop-label.label-index label copy c.loop-label.copy c.push.new.self c.loop-label-test.true c.label-item.is
    (ap (λ n. record { name = n; is_loop = label.is_loop }) c.in_ok-copy_text.ensures) c.loop-label.invariant c.in_ok-push.ensures.ok

pub returns : goal.returns
returns c = c.loop-label.invariant ∙ take_all c.loop-label.label-index c.as_slice-label-items.result.now c.loop-label-test.false ∙ c.as_slice-label-items.ensures

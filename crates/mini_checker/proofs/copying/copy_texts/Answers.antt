use Rattle.std.proofs.Common.{◌∙◌}
use Rattle.std.proofs.lemmas.List.{take_all}
use Rattle.mini_checker.proofs.Copies.{item_turn}
use Rattle.mini_checker.proofs.copying.copy_texts.Goals as goal

pub loop-text-preserved : goal.loop-text-preserved
loop-text-preserved c =
    item_turn c.as_slice-text-items.result.now c.loop-text.text-index c.text-item.result c.in_ok-copy_text.field-0 c.loop-text.copy c.push.new.self c.loop-text-test.true c.text-item.is c.in_ok-copy_text.ensures c.loop-text.invariant c.in_ok-push.ensures.ok

pub returns : goal.returns
returns c = c.loop-text.invariant ∙ take_all c.loop-text.text-index c.as_slice-text-items.result.now c.loop-text-test.false ∙ c.as_slice-text-items.ensures

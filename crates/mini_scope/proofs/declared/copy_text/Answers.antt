use Rattle.std.proofs.Common.{◌∙◌}
use Rattle.std.proofs.lemmas.List.{take_all}
use Rattle.mini_scope.proofs.Copies.{number_turn}
use Rattle.mini_scope.proofs.declared.copy_text.Goals as goal

pub loop-unit-preserved : goal.loop-unit-preserved
loop-unit-preserved c = number_turn c.as_slice-unit-items.result.now c.loop-unit.unit-index c.loop-unit.copy c.push.new.self c.loop-unit-test.true c.loop-unit.invariant c.in_ok-push.ensures.ok

pub returns : goal.returns
returns c = c.loop-unit.invariant ∙ take_all c.loop-unit.unit-index c.as_slice-unit-items.result.now c.loop-unit-test.false ∙ c.as_slice-unit-items.ensures

use Rattle.std.proofs.Common.{◌∙◌}
use Rattle.std.proofs.lemmas.List.{take_all}
use Rattle.mini_scope.proofs.Copies.{number_turn}
use Rattle.mini_scope.proofs.declarations.copy_path.Goals as goal

pub loop-index-preserved : goal.loop-index-preserved
loop-index-preserved c = number_turn c.as_slice-index-items.result.now c.loop-index.index-index c.loop-index.copy c.push.new.self c.loop-index-test.true c.loop-index.invariant c.in_ok-push.ensures.ok

pub returns : goal.returns
returns c = c.loop-index.invariant ∙ take_all c.loop-index.index-index c.as_slice-index-items.result.now c.loop-index-test.false ∙ c.as_slice-index-items.ensures

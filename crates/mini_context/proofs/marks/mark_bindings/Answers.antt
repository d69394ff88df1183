use Rattle.std.proofs.Common.{arith}
use Rattle.mini_context.specs.Tables.{Marked}
use Rattle.mini_context.proofs.Gathering.{items_begin, items_end, items_turn}
use Rattle.mini_context.proofs.Marking.{marks_add}
use Rattle.mini_context.proofs.marks.mark_bindings.Goals as goal

pub loop-binding-init : goal.loop-binding-init
loop-binding-init c = items_begin Marked (λ b. b.name) marks_add c.args.scope.now c.args.marks.now.items

pub loop-binding-preserved : goal.loop-binding-preserved
loop-binding-preserved c = items_turn Marked (λ b. b.name) marks_add c.args.scope.now c.loop-binding.binding-index c.binding-item.result _ _ _ c.loop-binding-test.true c.binding-item.is c.loop-binding.invariant c.mark_name.ensures

pub returns : goal.returns
returns c = items_end Marked (λ b. b.name) c.args.scope.now c.loop-binding.binding-index _ _ (omega arith) c.loop-binding.invariant

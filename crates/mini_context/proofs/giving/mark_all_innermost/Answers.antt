use Rattle.std.proofs.Common.{arith}
use Rattle.mini_laws.specs.declared.names.Use.TheVariants.{Read}
use Rattle.mini_laws.specs.Resolved.{with_symbol}
use Rattle.mini_context.specs.Tables.{Marked}
use Rattle.mini_context.proofs.Gathering.{items_begin, items_end, items_turn}
use Rattle.mini_context.proofs.Marking.{marks_add}
use Rattle.mini_context.proofs.giving.mark_all_innermost.Goals as goal

pub loop-name-init : goal.loop-name-init
loop-name-init c = items_begin Marked (with_symbol Read c.args.environment.now) marks_add c.args.names.now c.args.marks.now.items

pub loop-name-preserved : goal.loop-name-preserved
loop-name-preserved c = items_turn Marked (with_symbol Read c.args.environment.now) marks_add c.args.names.now c.loop-name.name-index c.name-item.result _ _ _ c.loop-name-test.true c.name-item.is c.loop-name.invariant c.mark_innermost.ensures

pub returns : goal.returns
returns c = items_end Marked (with_symbol Read c.args.environment.now) c.args.names.now c.loop-name.name-index _ _ (omega arith) c.loop-name.invariant

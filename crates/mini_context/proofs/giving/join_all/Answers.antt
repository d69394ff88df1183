use Rattle.std.proofs.Common.{arith}
use Rattle.mini_laws.specs.Shared.{write_at}
use Rattle.mini_context.specs.Mentioned.{Joined}
use Rattle.mini_context.proofs.Gathering.{items_begin, items_end, items_turn}
use Rattle.mini_context.proofs.Joining.{joins_add}
use Rattle.mini_context.proofs.giving.join_all.Goals as goal

pub loop-name-init : goal.loop-name-init
loop-name-init c = items_begin Joined (write_at c.args.around) joins_add c.args.names.now c.args.given.now.items

pub loop-name-preserved : goal.loop-name-preserved
loop-name-preserved c = items_turn Joined (write_at c.args.around) joins_add c.args.names.now c.loop-name.name-index c.name-item.result _ _ _ c.loop-name-test.true c.name-item.is c.loop-name.invariant c.join_name.ensures

pub returns : goal.returns
returns c = items_end Joined (write_at c.args.around) c.args.names.now c.loop-name.name-index _ _ (omega arith) c.loop-name.invariant

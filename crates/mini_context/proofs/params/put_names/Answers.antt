use Rattle.mini_context.proofs.Enclosing.{names_end, names_put, names_turn}
use Rattle.mini_context.proofs.params.put_names.Goals as goal

pub loop-name-init : goal.loop-name-init
loop-name-init c = (names_put c.args.function).nothing c.args.lists.now.items

pub loop-name-preserved : goal.loop-name-preserved
loop-name-preserved c = names_turn c.args.function c.args.names.now c.loop-name.name-index c.name-item.result c.args.lists.now.items c.loop-name.lists.items c.put_name.new.lists.items c.loop-name-test.true c.name-item.is c.loop-name.invariant c.in_ok-put_name.ensures

pub returns : goal.returns
returns c = names_end c.args.function c.args.names.now c.loop-name.name-index c.args.lists.now.items c.loop-name.lists.items c.loop-name-test.false c.loop-name.invariant

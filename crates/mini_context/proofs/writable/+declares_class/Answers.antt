use Rattle.std.proofs.Common.{◌∙◌, arith}
use Rattle.mini_context.proofs.Holding.{class_told, class_below}
use Rattle.mini_context.proofs.Marking.{got_falls}
use Rattle.mini_context.proofs.writable.+declares_class.Goals as goal

pub declares_class-requires : goal.declares_class-requires
declares_class-requires t c = (omega (arith, c.decreases, got_falls c.args.node.now c.children-nodes.result.now 0 c.in-Some.first.now c.children-nodes.ensures c.in-Some.ensures.value), tt)

pub returns-in-Here : goal.returns-in-Here
returns-in-Here t c = class_told c.args.node.now _ _ c.in-Here.ensures c.shape.ensures

pub returns-in-Some : goal.returns-in-Some
returns-in-Some t c = c.declares_class.ensures ∙ class_below c.args.node.now _ _ _ c.in-First.ensures c.shape.ensures c.children-nodes.ensures c.in-Some.ensures.value

pub returns-in-None : goal.returns-in-None
returns-in-None t c = class_below c.args.node.now _ _ _ c.in-First.ensures c.shape.ensures c.children-nodes.ensures c.in-None.ensures.value

pub returns-in-Nowhere : goal.returns-in-Nowhere
returns-in-Nowhere t c = class_told c.args.node.now _ _ c.in-Nowhere.ensures c.shape.ensures

use Rattle.std.proofs.Common.{refl, arith}
use Rattle.mini_context.proofs.Askings.{absent_here, absent_first}
use Rattle.mini_context.proofs.Marking.{got_falls}
use Rattle.mini_context.proofs.asking.+reads_absent.Goals as goal

pub reads_absent-requires : goal.reads_absent-requires
reads_absent-requires t c = (omega (arith, c.decreases, got_falls c.args.node.now c.children-nodes.result.now 0 c.in-Some.first.now c.children-nodes.ensures c.in-Some.ensures.value), tt)

pub returns-in-Here : goal.returns-in-Here
returns-in-Here t c = absent_here c.args.node.now _ _ _ c.in-Here.ensures c.shape.ensures refl

pub returns-in-Some : goal.returns-in-Some
returns-in-Some t c = absent_first c.args.node.now _ _ _ _ _ _ c.in-OfFirst.ensures c.shape.ensures c.children-nodes.ensures c.in-Some.ensures.value refl c.reads_absent.ensures

pub returns-in-None : goal.returns-in-None
returns-in-None t c = absent_first c.args.node.now _ _ _ _ _ _ c.in-OfFirst.ensures c.shape.ensures c.children-nodes.ensures c.in-None.ensures.value refl refl

pub returns-in-Nowhere : goal.returns-in-Nowhere
returns-in-Nowhere t c = absent_here c.args.node.now _ _ _ c.in-Nowhere.ensures c.shape.ensures refl

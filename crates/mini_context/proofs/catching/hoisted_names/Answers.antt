use Rattle.std.proofs.Common.{arith, ◌∙◌}
use Rattle.mini_laws.specs.declared.names.Declared.TheVariants as declared
use Rattle.mini_context.proofs.Spellings.{names_begin, names_turn, names_end}
use Rattle.mini_context.proofs.catching.hoisted_names.Goals as goal

pub loop-node-init : goal.loop-node-init
loop-node-init c = c.new-names.ensures.items ∙ names_begin declared.Hoisted

pub loop-node-preserved : goal.loop-node-preserved
loop-node-preserved c = names_turn declared.Hoisted c.args.nodes.now c.loop-node.node-index c.node-item.result _ _ c.loop-node-test.true c.node-item.is c.loop-node.invariant c.in_ok-push_names.ensures

pub returns : goal.returns
returns c = names_end declared.Hoisted c.args.nodes.now c.loop-node.node-index _ (omega arith) c.loop-node.invariant

use Rattle.std.proofs.Common.{ap, refl, arith}
use Rattle.mini_model.specs.Tree.{count}
use Rattle.mini_syntax.proofs.Keys.{turned_none, turned_next, turned_all, first_count}
use Rattle.mini_syntax.proofs.rewrites.substitute_object_property.turn_each.Goals as goal

pub loop-at-init : goal.loop-at-init
loop-at-init c = turned_none c.args.properties.now

pub child_mut-requires : goal.child_mut-requires
child_mut-requires c = omega (arith, ap count c.loop-at.invariant.done, first_count c.loop-at.at c.args.properties.now)

pub loop-at-preserved : goal.loop-at-preserved
loop-at-preserved c =
    turned_next c.loop-at.at _ c.args.properties.now c.loop-at.properties _ c.loop-at.changed c.in_ok-turned.turned c.child_mut.result.now c.turn.new.node
    (omega arith) (omega arith) c.loop-at.invariant c.child_mut.ensures.value c.in_ok-turned.ensures.tree c.in_ok-turned.ensures.said refl

pub returns-clause-tree : goal.returns-clause-tree
returns-clause-tree c = (turned_all c.loop-at.at c.args.properties.now c.loop-at.properties c.loop-at.changed (omega arith) c.loop-at.invariant).0

pub returns-clause-said : goal.returns-clause-said
returns-clause-said c = (turned_all c.loop-at.at c.args.properties.now c.loop-at.properties c.loop-at.changed (omega arith) c.loop-at.invariant).1

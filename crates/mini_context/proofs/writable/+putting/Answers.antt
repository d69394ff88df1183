use Rattle.std.proofs.Common.{◌<◌, ◌≤◌, subst, arith}
use Rattle.std.proofs.lemmas.Result.{on_ok_weaker}
use Rattle.mini_model.specs.Tree.{count, first_or_absent}
use Rattle.mini_context.specs.Holders.{variables_in, all_variables_in, PutAll}
use Rattle.mini_context.proofs.Gathering.{begins, turn, finished}
use Rattle.mini_context.proofs.Holding.{put_adds, variables_gather, node_put}
use Rattle.mini_context.proofs.writable.+putting.Goals as goal

pub put_node-returns : goal.put_node-returns
put_node-returns t c = on_ok_weaker _ (node_put c.args.node.now c.name.result.now _ _ _ c.name.ensures c.in_ok-put_own_name.ensures) c.put_children.ensures

pub put_children-loop-at-init : goal.put_children-loop-at-init
put_children-loop-at-init t c = begins PutAll (λ i us. all_variables_in us) c.children-nodes.result.now _

pub put_children-loop-at-preserved : goal.put_children-loop-at-preserved
put_children-loop-at-preserved t c =
    let inside : c.loop-at.at < count c.children-nodes.result.now = omega arith in
    turn PutAll (λ i us. variables_in (first_or_absent us)) (λ i us. all_variables_in us) put_adds variables_gather c.children-nodes.result.now c.loop-at.at c.child.result.now _ _ _ inside c.child.ensures.value c.in_ok-put_node.ensures c.loop-at.invariant

pub put_children-returns : goal.put_children-returns
put_children-returns t c =
    let over : count c.children-nodes.result.now ≤ c.loop-at.at = omega arith in
    subst (λ us. PutAll (all_variables_in us) c.args.marks.now.items c.loop-at.marks.items) c.children-nodes.ensures
    (finished PutAll (λ i us. variables_in (first_or_absent us)) (λ i us. all_variables_in us) put_adds variables_gather c.children-nodes.result.now c.loop-at.at _ _ over c.loop-at.invariant)

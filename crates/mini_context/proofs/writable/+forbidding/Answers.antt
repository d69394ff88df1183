use Rattle.std.proofs.Common.{◌<◌, ◌≤◌, arith}
use Rattle.mini_model.specs.Tree.{count, first_or_absent}
use Rattle.mini_context.specs.Holders.{forbidden_in, all_forbidden_in, TakenAll}
use Rattle.mini_context.proofs.Gathering.{begins, turn, finished}
use Rattle.mini_context.proofs.Holding.{taken_adds, forbidden_gather, node_taken}
use Rattle.mini_context.proofs.writable.+forbidding.Goals as goal

pub take_forbidden-returns : goal.take_forbidden-returns
take_forbidden-returns t c = node_taken c.args.node.now _ _ _ _ _ _ c.forbidden_holder.ensures c.shape.ensures c.children.ensures c.take_held.ensures c.take_all_forbidden.ensures

pub take_all_forbidden-loop-at-init : goal.take_all_forbidden-loop-at-init
take_all_forbidden-loop-at-init t c = begins TakenAll (λ i us. all_forbidden_in us) c.args.nodes.now c.args.marks.now.items

pub take_all_forbidden-loop-at-preserved : goal.take_all_forbidden-loop-at-preserved
take_all_forbidden-loop-at-preserved t c =
    let inside : c.loop-at.at < count c.args.nodes.now = omega arith in
    turn TakenAll (λ i us. forbidden_in (first_or_absent us)) (λ i us. all_forbidden_in us) taken_adds forbidden_gather c.args.nodes.now c.loop-at.at c.child.result.now _ _ _ inside c.child.ensures.value c.take_forbidden.ensures c.loop-at.invariant

pub take_all_forbidden-returns : goal.take_all_forbidden-returns
take_all_forbidden-returns t c =
    let over : count c.args.nodes.now ≤ c.loop-at.at = omega arith in
    finished TakenAll (λ i us. forbidden_in (first_or_absent us)) (λ i us. all_forbidden_in us) taken_adds forbidden_gather c.args.nodes.now c.loop-at.at _ _ over c.loop-at.invariant

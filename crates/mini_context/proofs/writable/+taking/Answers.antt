use Rattle.std.proofs.Common.{◌<◌, ◌≤◌, subst, arith}
use Rattle.mini_model.specs.Tree.{count, first_or_absent}
use Rattle.mini_laws.specs.Naming.{lets_all, summary, summaries}
use Rattle.mini_context.specs.Holders.{TakenAll}
use Rattle.mini_context.proofs.Gathering.{begins, turn, finished}
use Rattle.mini_context.proofs.Holding.{taken_adds, lets_gather, lets_told, child_within}
use Rattle.mini_context.proofs.writable.+taking.Goals as goal

pub take_at-take_lets-requires : goal.take_at-take_lets-requires
take_at-take_lets-requires t c = (omega (arith, c.decreases, child_within c.args.nodes.now c.args.at c.in-Some.node.now c.in-Some.ensures.value), tt)

pub take_class-take_lets-requires : goal.take_class-take_lets-requires
take_class-take_lets-requires t c = (omega (arith, c.decreases, child_within c.args.nodes.now 0 c.in-Some.node.now c.in-Some.ensures.value), tt)

pub take_lets-returns : goal.take_lets-returns
take_lets-returns t c = subst (λ ys. TakenAll ys c.args.marks.now.items c.take_held.new.marks.items) (lets_told c.args.node.now _ _ c.lets_holder.ensures c.shape.ensures) c.take_held.ensures

pub take_all-loop-at-init : goal.take_all-loop-at-init
take_all-loop-at-init t c = begins TakenAll (λ i us. lets_all (summaries us)) c.args.nodes.now c.args.marks.now.items

pub take_all-loop-at-preserved : goal.take_all-loop-at-preserved
take_all-loop-at-preserved t c =
    let inside : c.loop-at.at < count c.args.nodes.now = omega arith in
    turn TakenAll (λ i us. (summary (first_or_absent us)).lets) (λ i us. lets_all (summaries us)) taken_adds lets_gather c.args.nodes.now c.loop-at.at c.child.result.now _ _ _ inside c.child.ensures.value c.take_lets.ensures c.loop-at.invariant

pub take_all-returns : goal.take_all-returns
take_all-returns t c =
    let over : count c.args.nodes.now ≤ c.loop-at.at = omega arith in
    finished TakenAll (λ i us. (summary (first_or_absent us)).lets) (λ i us. lets_all (summaries us)) taken_adds lets_gather c.args.nodes.now c.loop-at.at _ _ over c.loop-at.invariant

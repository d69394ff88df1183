use Rattle.std.proofs.Common.{◌≤◌, subst, arith}
use Rattle.std.specs.Prelude.{Some}
use Rattle.mini_model.specs.Tree.{count}
use Rattle.mini_rows.specs.Unused.{names, gathered_below, are_passed_in}
use Rattle.mini_unused.specs.Looks.{Looked}
use Rattle.mini_unused.proofs.Looks.{looked_passed, looked_there, none_there}
use Rattle.mini_unused.proofs.SingleUses.{place_start}
use Rattle.mini_unused.proofs.Standing.{before_step}
use Rattle.mini_unused.proofs.passing.+looks.Goals as goal

pub look-returns-in-Some : goal.look-returns-in-Some
look-returns-in-Some t c = looked_passed c.args.name.now c.args.gathered c.args.init.now c.args.node.now c.shape.result.now c.children.result.now c.in-Some.at c.in-Some.passes c.reaches_at.result c.shape.ensures c.children.ensures c.in-Some.ensures c.reaches_at.ensures

pub look_along-loop-at-init : goal.look_along-loop-at-init
look_along-loop-at-init t c = place_start c.args.name.now c.args.nodes.now

pub look_along-returns-in-Some : goal.look_along-returns-in-Some
look_along-returns-in-Some t c =
    let x = c.args.name.now in
    let r = c.args.init.now in
    looked_there (λ i. are_passed_in x (gathered_below c.args.gathered c.args.shape.now i) r) x c.args.nodes.now c.loop-at.at c.child.result.now c.in-Some.passes (omega arith) c.loop-at.invariant c.child.ensures.value (subst (λ m. Looked (Some c.in-Some.passes) (names x c.child.result.now) (are_passed_in x m r c.child.result.now)) c.gathered_below-below.ensures c.in-Some.ensures)

pub look_along-loop-at-preserved : goal.look_along-loop-at-preserved
look_along-loop-at-preserved t c = before_step c.args.name.now c.args.nodes.now c.loop-at.at _ c.child.result.now (omega arith) (omega arith) c.child.ensures.value c.in_default.ensures c.loop-at.invariant

pub look_along-returns : goal.look_along-returns
look_along-returns t c =
    let over : count c.args.nodes.now ≤ c.loop-at.at = omega arith in
    none_there c.args.name.now c.args.nodes.now c.loop-at.at over c.loop-at.invariant

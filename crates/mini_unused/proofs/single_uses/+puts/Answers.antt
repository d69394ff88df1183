use Rattle.std.proofs.Common.{◌<◌, ◌≤◌, ◌∙◌, refl, ap, arith}
use Rattle.mini_model.specs.Tree.{children, count}
use Rattle.mini_rows.specs.Unused.{any_names}
use Rattle.mini_unused.proofs.Looks.{children_with, put_still, put_whole, child_smaller, put_there, put_on, put_end}
use Rattle.mini_unused.proofs.SingleUses.{place_start}
use Rattle.mini_unused.proofs.single_uses.+puts.Goals as goal

pub put_inside-put_at_own-requires-clause-some : goal.put_inside-put_at_own-requires-clause-some
put_inside-put_at_own-requires-clause-some t c =
    let some : 0 < count (children c.args.node.now) = omega (arith, ap count c.children.ensures) in
    let same = ap count (children_with c.args.node.now c.put_along.new.nodes ∙ c.in-Some.ensures.1 ∙ c.children_mut.ensures.value) in
    omega (arith, some, same)

pub put_inside-put_at_own-requires-clause-none : goal.put_inside-put_at_own-requires-clause-none
put_inside-put_at_own-requires-clause-none t c = ap (any_names c.args.name.now) (children_with c.args.node.now c.put_along.new.nodes ∙ c.in-Some.ensures.1) ∙ c.in-Some.ensures.0

pub put_inside-returns-in-Some : goal.put_inside-returns-in-Some
put_inside-returns-in-Some t c = put_still c.args.name.now c.args.value c.in-Some.value c.args.node.now _ c.children_mut.result.now c.put_along.new.nodes _ c.children_mut.ensures.value c.in-Some.ensures c.put_at_own.ensures

pub put_inside-returns-in-None : goal.put_inside-returns-in-None
put_inside-returns-in-None t c =
    let some : 0 < count (children c.args.node.now) = omega (arith, ap count c.children.ensures) in
    put_whole c.args.name.now c.args.value c.args.node.now _ c.children_mut.result.now c.put_along.new.nodes some c.children_mut.ensures.value c.in-None.ensures c.spell_in_full.ensures

pub put_along-loop-at-init : goal.put_along-loop-at-init
put_along-loop-at-init t c = (place_start c.args.name.now c.args.nodes.now, refl, refl)

pub put_along-put_inside-requires : goal.put_along-put_inside-requires
put_along-put_inside-requires t c =
    let (f, e, g) = c.loop-at.invariant in
    let less = child_smaller c.args.nodes.now c.loop-at.nodes c.loop-at.at c.child_mut.result.now (omega arith) e c.child_mut.ensures.value in
    (omega (arith, c.decreases, less), tt)

pub put_along-returns-in-None : goal.put_along-returns-in-None
put_along-returns-in-None t c =
    let (f, e, g) = c.loop-at.invariant in
    put_there c.args.name.now c.args.value c.args.nodes.now c.loop-at.nodes _ c.loop-at.at c.loop-at.left c.child_mut.result.now c.put_inside.new.node (omega arith) f e g c.child_mut.ensures.value c.in-None.ensures refl

pub put_along-loop-at-preserved : goal.put_along-loop-at-preserved
put_along-loop-at-preserved t c =
    let (f, e, g) = c.loop-at.invariant in
    put_on c.args.name.now c.args.value c.args.nodes.now c.loop-at.nodes _ c.loop-at.at _ c.loop-at.left c.child_mut.result.now c.put_inside.new.node _ (omega arith) (omega arith) f e g c.child_mut.ensures.value c.in-Some.ensures refl

pub put_along-returns : goal.put_along-returns
put_along-returns t c =
    let (f, e, g) = c.loop-at.invariant in
    let over : count c.args.nodes.now ≤ c.loop-at.at = omega arith in
    put_end c.args.name.now c.args.value c.args.nodes.now c.loop-at.nodes c.loop-at.at c.loop-at.left over f e g

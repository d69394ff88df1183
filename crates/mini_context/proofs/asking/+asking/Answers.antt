use Rattle.std.proofs.Common.{◌<◌, ◌≤◌, subst, sym, ap, ◌∙◌, arith}
use Rattle.std.proofs.lemmas.Result.{on_ok_weaker}
use Rattle.mini_model.specs.Tree.{count, children, shape_of, first_or_absent}
use Rattle.mini_laws.specs.Bodies.{below, bodies, bodies_from}
use Rattle.mini_context.specs.Asking.{asking_by, Like, PutAsking}
use Rattle.mini_context.proofs.Askings.{asking_adds, bodies_gather, like_below, node_asks}
use Rattle.mini_context.proofs.Gathering.{begins, turn, finished}
use Rattle.mini_context.proofs.Surveys.{child_falls}
use Rattle.mini_context.proofs.asking.+asking.Goals as goal

pub mark_asking-returns : goal.mark_asking-returns
mark_asking-returns t c = λ a l. on_ok_weaker _ (node_asks c.args.around a l c.args.node.now c.shape.result.now c.number.result c.own_asks.result _ _ _ c.shape.ensures c.number.ensures c.own_asks.ensures c.in_ok-mark_number.ensures) (c.mark_below.ensures a l)

pub mark_below-loop-at-init : goal.mark_below-loop-at-init
mark_below-loop-at-init t c = λ a l. begins PutAsking (bodies_from (below a (shape_of c.args.node.now) (children c.args.node.now))) c.children-nodes.result.now _

pub mark_below-mark_asking-requires : goal.mark_below-mark_asking-requires
mark_below-mark_asking-requires t c =
    let inside : c.loop-at.at < count c.children-nodes.result.now = omega arith in
    (omega (arith, c.decreases, child_falls c.args.node.now c.children-nodes.result.now c.loop-at.at c.child.result.now c.children-nodes.ensures inside c.child.ensures.value), tt)

pub mark_below-loop-at-preserved : goal.mark_below-loop-at-preserved
mark_below-loop-at-preserved t c =
    let inside : c.loop-at.at < count c.children-nodes.result.now = omega arith in
    let h = shape_of c.args.node.now in
    let ts = children c.args.node.now in
    λ a l.
    let stands = below a h ts in
    let like : Like c.asking_below.result (stands c.loop-at.at) = subst (λ k. Like k (stands c.loop-at.at)) (sym (c.asking_below.ensures ∙ ap (λ g. asking_by g c.args.around c.children-nodes.result.now c.loop-at.at) c.shape.ensures ∙ ap (λ us. asking_by h c.args.around us c.loop-at.at) c.children-nodes.ensures)) (like_below c.args.around a l h ts c.loop-at.at) in
    turn PutAsking (λ i us. bodies (stands i) (first_or_absent us)) (bodies_from stands) asking_adds (bodies_gather stands) c.children-nodes.result.now c.loop-at.at c.child.result.now _ _ _ inside c.child.ensures.value
    (c.in_ok-mark_asking.ensures (stands c.loop-at.at) like) (c.loop-at.invariant a l)

pub mark_below-returns : goal.mark_below-returns
mark_below-returns t c =
    let over : count c.children-nodes.result.now ≤ c.loop-at.at = omega arith in
    λ a l.
    let stands = below a (shape_of c.args.node.now) (children c.args.node.now) in
    subst (λ us. PutAsking (bodies_from stands 0 us) c.args.marks.now.items c.loop-at.marks.items) c.children-nodes.ensures
    (finished PutAsking (λ i us. bodies (stands i) (first_or_absent us)) (bodies_from stands) asking_adds (bodies_gather stands) c.children-nodes.result.now c.loop-at.at _ _ over (c.loop-at.invariant a l))

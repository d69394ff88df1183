use Rattle.std.proofs.Common.{ap, sym, ◌∙◌, refl, ◌<◌, ◌≤◌, arith}
use Rattle.mini_model.specs.Tree.{count}
use Rattle.mini_dead.specs.Pruned.{role}
use Rattle.mini_drop.specs.Asked.{role_in, spot_in}
use Rattle.mini_drop.proofs.Marks.{next, finished, node_added, inside_added}
use Rattle.mini_drop.proofs.declared.+declared.Goals as goal

pub mark_below-loop-at-preserved : goal.mark_below-loop-at-preserved
mark_below-loop-at-preserved t c =
    let inside : c.loop-at.at < count c.args.nodes.now = omega arith in
    next (role_in c.args.role) c.args.from c.loop-at.at c.args.nodes.now c.child.result.now _ _ _ inside c.child.ensures.value c.mark_part.ensures c.loop-at.invariant

pub mark_below-returns : goal.mark_below-returns
mark_below-returns t c =
    let over : count c.args.nodes.now ≤ c.loop-at.at = omega arith in
    finished (role_in c.args.role) c.args.from c.loop-at.at c.args.nodes.now _ _ over c.loop-at.invariant

pub mark_declared-returns : goal.mark_declared-returns
mark_declared-returns t c =
    node_added (spot_in c.args.spot) c.args.node.now c.shape.result.now c.name.result.now (role_in c.role_of.result) c.children.result.now _ _ _ c.shape.ensures c.name.ensures (c.role_of.ensures ∙ ap (λ h. role h (spot_in c.args.spot)) (c.shape-2.ensures ∙ sym c.shape.ensures)) c.children.ensures c.mark_own.ensures c.mark_below.ensures

pub mark_inside-returns : goal.mark_inside-returns
mark_inside-returns t c =
    inside_added c.args.node.now c.shape.result.now c.name.result.now _ c.children.result.now _ _ _ c.shape.ensures c.name.ensures refl c.children.ensures c.mark_own.ensures c.mark_below.ensures

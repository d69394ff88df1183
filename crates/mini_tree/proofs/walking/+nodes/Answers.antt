use Rattle.std.proofs.Common.{ap, ◌∙◌, arith}
use Rattle.mini_model.specs.Tree.{count}
use Rattle.mini_tree.proofs.Walks.{child_smaller, walked_child, walked_all, walked_both}
use Rattle.mini_tree.proofs.walking.+nodes.Goals as goal

pub walk-returns-clause-walked : goal.walk-returns-clause-walked
walk-returns-clause-walked g t c = λ o q k. walked_both (g.R.Rule.gives o q) (g.R.Rule.rests o q) _ _ _ _ _ _ (c.in_ok-below.ensures.walked o q k) (c.in_ok-here.ensures.walked o q (c.in_ok-below.ensures.known o q k))

pub walk_children-walk-requires : goal.walk_children-walk-requires
walk_children-walk-requires g t c κs within =
    let (o, q, k) = c.requires in
    let as_before = (c.loop-at.invariant.walked o q k).rest c.loop-at.at (omega arith) in
    let small = child_smaller c.args.node.now c.loop-at.node _ _ c.loop-at.at c.children_mut.ensures.value c.child_mut.ensures.value as_before (omega (arith, c.len-count.ensures, ap count c.children.ensures, c.loop-at-test.true)) in
    (omega (arith, c.decreases, small), (within.0, (within.1, (o, q, c.loop-at.invariant.known o q k))))

pub walk_children-loop-at-preserved : goal.walk_children-loop-at-preserved
walk_children-loop-at-preserved g t c = record {
  known = λ o q k. c.in_ok-child.ensures.known o q (c.loop-at.invariant.known o q k);
  walked = λ o q k.
      walked_child (g.R.Rule.gives o q) (g.R.Rule.rests o q) _ _ _ c.len-count.result c.loop-at.at _ c.loop-at.node _ _ _ c.loop-at.changed _
      (c.child_place-stands.ensures, c.shape.ensures, c.len-count.ensures ∙ ap count c.children.ensures, c.children_mut.ensures.value, c.child_mut.ensures.value)
      (omega (arith, c.loop-at-test.true)) (c.loop-at.invariant.walked o q k) (c.in_ok-child.ensures.walked o q (c.loop-at.invariant.known o q k));
}

pub walk_children-returns-clause-walked : goal.walk_children-returns-clause-walked
walk_children-returns-clause-walked g t c = λ o q k.
    walked_all (g.R.Rule.gives o q) (g.R.Rule.rests o q) _ c.loop-at.at _ _ c.loop-at.changed (omega (arith, c.len-count.ensures, ap count c.children.ensures, c.loop-at-test.false, c.loop-at.auto)) (c.loop-at.invariant.walked o q k)

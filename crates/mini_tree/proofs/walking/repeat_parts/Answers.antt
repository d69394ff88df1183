use Rattle.std.proofs.Common.{ap, ◌∙◌, arith}
use Rattle.mini_model.specs.Tree.{count}
use Rattle.mini_tree.proofs.Walks.{tried_none, tried_child}
use Rattle.mini_tree.proofs.walking.repeat_parts.Goals as goal

pub loop-at-init : goal.loop-at-init
loop-at-init g c = record { known = λ o q k. k; tried = λ o q k. tried_none (g.R.Rule.gives o q) (g.R.Rule.rests o q) _ _ }

pub loop-at-preserved : goal.loop-at-preserved
loop-at-preserved g c = record {
  known = λ o q k. c.in_ok-_changed.ensures.known o q (c.loop-at.invariant.known o q k);
  tried = λ o q k.
      tried_child (g.R.Rule.gives o q) (g.R.Rule.rests o q) _ _ _ c.len-parts.result c.loop-at.at _ c.loop-at.node _ _ _ _
      (c.child_place-stands.ensures, c.shape.ensures, c.len-parts.ensures ∙ ap count c.children.ensures, c.children_mut.ensures.value, c.child_mut-child.ensures.value)
      (omega (arith, c.loop-at-test.true)) (c.loop-at.invariant.tried o q k) (c.in_ok-_changed.ensures.walked o q (c.loop-at.invariant.known o q k));
}

pub returns-clause-reached : goal.returns-clause-reached
returns-clause-reached g c = λ o q k. (c.loop-at.invariant.tried o q k).reached

use Rattle.mini_tree.proofs.Walks.{here_more, here_fallen, here_ended}
use Rattle.mini_tree.proofs.walking.settle.Goals as goal

pub again-smaller : goal.again-smaller
again-smaller g c =
    let (o, q, k) = c.requires in
    let now = c.again.invariant.known o q k in
    here_fallen (g.R.Rule.gives o q) (g.R.Rule.rests o q) _ _ _ _ _ (g.met.R.Rule.lighter o q) (c.in_ok-repeat.ensures.walked o q now) c.if-branch.true (c.in_ok-repeat_below.ensures.reached o q (c.in_ok-repeat.ensures.known o q now))

pub again-preserved : goal.again-preserved
again-preserved g c = record {
  known = λ o q k. c.in_ok-repeat_below.ensures.known o q (c.in_ok-repeat.ensures.known o q (c.again.invariant.known o q k));
  here = λ o q k.
      let now = c.again.invariant.known o q k in
      here_more (g.R.Rule.gives o q) (g.R.Rule.rests o q) _ _ _ _ _ c.again.changed _ (c.again.invariant.here o q k) (c.in_ok-repeat.ensures.walked o q now) c.if-branch.true (c.in_ok-repeat_below.ensures.reached o q (c.in_ok-repeat.ensures.known o q now));
}

pub returns-clause-walked : goal.returns-clause-walked
returns-clause-walked g c = λ o q k. here_ended (g.R.Rule.gives o q) (g.R.Rule.rests o q) _ _ _ _ c.again.changed _ (c.again.invariant.here o q k) (c.in_ok-repeat.ensures.walked o q (c.again.invariant.known o q k)) c.if-branch.false

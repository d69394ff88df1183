use Rattle.mini_tree.proofs.Walks.{here_next, here_ended, applied_lighter}
use Rattle.mini_tree.proofs.walking.repeat.Goals as goal

pub again-smaller : goal.again-smaller
again-smaller g c =
    let (o, q, k) = c.requires in
    applied_lighter (g.R.Rule.gives o q) (g.R.Rule.rests o q) _ _ _ _ (g.met.R.Rule.lighter o q) (c.in_ok-apply.ensures.applied o q (c.again.invariant.known o q k)) c.if-branch.true

pub again-preserved : goal.again-preserved
again-preserved g c = record {
  known = λ o q k. c.in_ok-apply.ensures.known o q (c.again.invariant.known o q k);
  here = λ o q k. here_next (g.R.Rule.gives o q) (g.R.Rule.rests o q) _ _ _ _ c.again.changed _ (c.again.invariant.here o q k) (c.in_ok-apply.ensures.applied o q (c.again.invariant.known o q k)) c.if-branch.true;
}

pub returns-clause-walked : goal.returns-clause-walked
returns-clause-walked g c = λ o q k. here_ended (g.R.Rule.gives o q) (g.R.Rule.rests o q) _ _ _ _ c.again.changed _ (c.again.invariant.here o q k) (c.in_ok-apply.ensures.applied o q (c.again.invariant.known o q k)) c.if-branch.false

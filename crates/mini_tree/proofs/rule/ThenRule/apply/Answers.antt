use Rattle.mini_tree.proofs.Joining.{first_applied, both_applied}
use Rattle.mini_tree.proofs.rule.ThenRule.apply.Goals as goal

pub returns-then-branch-clause-applied : goal.returns-then-branch-clause-applied
returns-then-branch-clause-applied g c =
    λ o q k. first_applied (g.A.Rule.gives o q) (g.B.Rule.gives o q) (g.A.Rule.rests o q) (g.B.Rule.rests o q) _ _ _ _ (c.in_ok-apply.ensures.applied o q k) c.if-branch.true

pub returns-clause-applied : goal.returns-clause-applied
returns-clause-applied g c =
    λ o q k. both_applied (g.A.Rule.gives o q) (g.B.Rule.gives o q) (g.A.Rule.rests o q) (g.B.Rule.rests o q) _ _ _ _ _ _ (c.in_ok-apply.ensures.applied o q k) c.if-branch.false (c.in_ok-second.ensures.applied o q (c.in_ok-apply.ensures.known o q k))

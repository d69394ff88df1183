use Rattle.mini_tree.proofs.Walks.{on_ok, through, through_here}
use Rattle.mini_tree.proofs.walking.repeat_through.Goals as goal

pub returns-then-not-is_block-clause-reached : goal.returns-then-not-is_block-clause-reached
returns-then-not-is_block-clause-reached g c = λ o q k. through_here (g.R.Rule.gives o q) (g.R.Rule.rests o q) _ _ _ _ (c.in_ok-_changed.ensures.walked o q k)

pub returns-clause-reached : goal.returns-clause-reached
returns-clause-reached g c = on_ok c.repeat_parts.result (λ r o q k. through (g.R.Rule.gives o q) (g.R.Rule.rests o q) _ _ _ _ _ (c.in_ok-_changed.ensures.walked o q k) (r o q (c.in_ok-_changed.ensures.known o q k))) c.repeat_parts.ensures.reached

use Rattle.std.proofs.Common.{◌+◌, ◌*◌}
use Rattle.mini_model.specs.Tree.{node_count}
use Rattle.mini_replay.proofs.Drafts.{KeptFrom}
use Rattle.mini_replay.proofs.drafting.+drafting.Given as goal

abbrev pub decreases-draft_in : goal.decreases-draft_in
decreases-draft_in g l = 3 * node_count l.node.now + 2

abbrev pub decreases-draft_at : goal.decreases-draft_at
decreases-draft_at g l = 3 * node_count l.node.now + 1

abbrev pub decreases-draft_below : goal.decreases-draft_below
decreases-draft_below g l = 3 * node_count l.node.now

abbrev pub decreases-draft_at-steps : goal.decreases-draft_at-steps
decreases-draft_at-steps g l = l.draft.room

abbrev pub invariant-draft_below-loop-at : goal.invariant-draft_below-loop-at
invariant-draft_below-loop-at g l = KeptFrom l.at l.fn.node l.node

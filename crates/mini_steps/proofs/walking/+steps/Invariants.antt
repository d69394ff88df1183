use Rattle.std.proofs.Common.{◌+◌, ◌*◌}
use Rattle.mini_model.specs.Tree.{node_count}
use Rattle.mini_steps.proofs.walking.+steps.Given as goal

abbrev pub decreases-step_at : goal.decreases-step_at
decreases-step_at l = 2 * node_count l.node.now + 1

abbrev pub decreases-step_below : goal.decreases-step_below
decreases-step_below l = 2 * node_count l.node.now

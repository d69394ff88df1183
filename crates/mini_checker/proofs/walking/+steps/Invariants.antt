use Rattle.std.proofs.Common.{◌+◌, ◌*◌}
use Rattle.mini_model.specs.Tree.{node_count}
use Rattle.mini_checker.proofs.walking.+steps.Given as goal

abbrev pub decreases-step_at : goal.decreases-step_at
decreases-step_at g l = 3 * node_count l.node.now + 2

abbrev pub decreases-step_on : goal.decreases-step_on
decreases-step_on g l = 3 * node_count l.node.now + 1

abbrev pub decreases-step_below : goal.decreases-step_below
decreases-step_below g l = 3 * node_count l.node.now

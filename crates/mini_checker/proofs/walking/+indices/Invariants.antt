use Rattle.std.proofs.Common.{◌+◌, ◌*◌}
use Rattle.mini_model.specs.Tree.{node_count, node_counts}
use Rattle.mini_checker.proofs.Walks.{Found}
use Rattle.mini_checker.proofs.walking.+indices.Given as goal

abbrev pub decreases-find : goal.decreases-find
decreases-find l = 3 * node_counts l.nodes.now + 1

abbrev pub decreases-pass : goal.decreases-pass
decreases-pass l = 3 * node_count l.node.now

abbrev pub decreases-pass_all : goal.decreases-pass_all
decreases-pass_all l = 3 * node_counts l.nodes.now + 2

abbrev pub invariant-find-loop-at : goal.invariant-find-loop-at
invariant-find-loop-at l = Found l.nodes l.index l.at l.left

use Rattle.std.proofs.Common.{◌≡◌, ◌+◌, ◌*◌, drop}
use Rattle.mini_model.specs.Tree.{node_count, node_counts}
use Rattle.mini_node.specs.Children.{trees_of}
use Rattle.mini_faults.specs.Depth.{all_nest_within}
use Rattle.mini_faults.proofs.depth.+levels.Given as goal

abbrev pub decreases-nests_within : goal.decreases-nests_within
decreases-nests_within l = 2 * node_count l.node.now

abbrev pub decreases-all_nest_within : goal.decreases-all_nest_within
decreases-all_nest_within l = 2 * node_counts (trees_of l.nodes.now) + 1

abbrev pub invariant-all_nest_within-loop-node : goal.invariant-all_nest_within-loop-node
invariant-all_nest_within-loop-node l = all_nest_within l.levels (trees_of (drop l.node-index l.nodes)) ≡ all_nest_within l.levels (trees_of l.nodes)

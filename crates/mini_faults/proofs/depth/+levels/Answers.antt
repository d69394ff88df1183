use Rattle.std.proofs.Common.{ap, sym, ◌∙◌, arith}
use Rattle.mini_faults.proofs.Filled.{node_within}
use Rattle.mini_faults.proofs.depth.+levels.Goals as goal

pub all_nest_within-nests_within-requires : goal.all_nest_within-nests_within-requires
all_nest_within-nests_within-requires t c = (omega (arith, c.decreases, node_within c.args.nodes.now c.loop-node.node-index c.node-item.result c.loop-node-test.true c.node-item.is), tt)

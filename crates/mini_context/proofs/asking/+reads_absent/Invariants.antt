use Rattle.mini_model.specs.Tree.{node_count}
use Rattle.mini_context.proofs.asking.+reads_absent.Given as goal

abbrev pub decreases-reads_absent : goal.decreases-reads_absent
decreases-reads_absent l = node_count l.node.now

use Rattle.mini_model.specs.Tree.{node_count}
use Rattle.mini_context.proofs.writable.+declares_class.Given as goal

abbrev pub decreases-declares_class : goal.decreases-declares_class
decreases-declares_class l = node_count l.node.now

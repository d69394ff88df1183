use Rattle.mini_model.specs.Tree.{node_count}
use Rattle.mini_logic.proofs.terms.+is_boolean.Given as goal

abbrev pub decreases-is_boolean : goal.decreases-is_boolean
decreases-is_boolean l = node_count l.node.now

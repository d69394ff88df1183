use Rattle.std.proofs.Common.{◌+◌, ◌*◌}
use Rattle.mini_model.specs.Tree.{node_count}
use Rattle.mini_logic.proofs.whole.+telling.Given as goal

abbrev pub decreases-told_negation : goal.decreases-told_negation
decreases-told_negation l = 2 * node_count l.expression + 1

abbrev pub decreases-told_sequence : goal.decreases-told_sequence
decreases-told_sequence l = 2 * node_count l.expression

use Rattle.std.proofs.Common.{◌≡◌, ◌+◌, ◌*◌}
use Rattle.mini_model.specs.Tree.{node_count, node_counts}
use Rattle.mini_node.specs.Children.{rest_children}
use Rattle.mini_rows.specs.Loops.{any_may_leap}
use Rattle.mini_logic.proofs.rewrites.minimize_for_statement.+leaping.Given as goal

abbrev pub decreases-may_leap : goal.decreases-may_leap
decreases-may_leap l = 2 * node_count l.node.now

abbrev pub decreases-any_may_leap : goal.decreases-any_may_leap
decreases-any_may_leap l = 2 * node_counts l.nodes.now + 1

abbrev pub invariant-any_may_leap-loop-at : goal.invariant-any_may_leap-loop-at
invariant-any_may_leap-loop-at l = any_may_leap (rest_children l.from l.nodes) ≡ any_may_leap (rest_children l.at l.nodes)

use Rattle.std.proofs.Common.{◌≡◌, ◌+◌, ◌*◌}
use Rattle.mini_model.specs.Tree.{node_count, node_counts}
use Rattle.mini_node.specs.Children.{rest_children}
use Rattle.mini_rows.specs.DeadLexicals.{all_give}
use Rattle.mini_stmt.proofs.rewrites.fading.+giving.Given as goal

abbrev pub decreases-gives : goal.decreases-gives
decreases-gives l = 2 * node_count l.node.now

abbrev pub decreases-all_give : goal.decreases-all_give
decreases-all_give l = 2 * node_counts l.nodes.now + 1

abbrev pub decreases-first_gives : goal.decreases-first_gives
decreases-first_gives l = 2 * node_counts l.nodes.now + 1

abbrev pub invariant-all_give-loop-at : goal.invariant-all_give-loop-at
invariant-all_give-loop-at l = all_give (rest_children l.at l.nodes) ≡ all_give l.nodes

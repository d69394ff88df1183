use Rattle.std.proofs.Common.{◌≡◌, ◌+◌, ◌*◌}
use Rattle.mini_model.specs.Tree.{node_count, node_counts}
use Rattle.mini_node.specs.Children.{rest_children}
use Rattle.mini_terms.specs.Effects.{all_true, each_ef}
use Rattle.mini_terms.proofs.effects.+effects.Given as goal

abbrev pub decreases-is_effect_free : goal.decreases-is_effect_free
decreases-is_effect_free l = 3 * node_count l.node.now + 2

abbrev pub decreases-is_unary_effect_free : goal.decreases-is_unary_effect_free
decreases-is_unary_effect_free l = 3 * node_count l.node.now + 1

abbrev pub decreases-is_binary_effect_free : goal.decreases-is_binary_effect_free
decreases-is_binary_effect_free l = 3 * node_count l.node.now + 1

abbrev pub decreases-is_child_effect_free : goal.decreases-is_child_effect_free
decreases-is_child_effect_free l = 3 * node_count l.node.now

abbrev pub decreases-are_effect_free : goal.decreases-are_effect_free
decreases-are_effect_free l = 3 * node_counts l.nodes.now + 3

abbrev pub invariant-are_effect_free-loop-at : goal.invariant-are_effect_free-loop-at
invariant-are_effect_free-loop-at l = all_true (each_ef l.asked (rest_children l.at l.nodes)) ≡ all_true (each_ef l.asked l.nodes)

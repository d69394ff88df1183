use Rattle.std.proofs.Common.{◌≡◌, ◌+◌, ◌*◌, drop, length}
use Rattle.mini_model.specs.Tree.{node_count, node_counts}
use Rattle.mini_node.specs.Children.{trees_of}
use Rattle.mini_print.specs.Printed.{are_printable}
use Rattle.mini_grammar.specs.Views.{goal_of}
use Rattle.mini_faults.proofs.printable.+filling.Given as goal

abbrev pub decreases-stands : goal.decreases-stands
decreases-stands l = 64 * node_count l.node.now + 4

abbrev pub decreases-are_filled : goal.decreases-are_filled
decreases-are_filled l = 64 * node_counts (trees_of l.parts.now) + 12 + length l.pieces.now

abbrev pub decreases-is_filled : goal.decreases-is_filled
decreases-is_filled l = 64 * node_count l.part.now + 10

abbrev pub decreases-is_part : goal.decreases-is_part
decreases-is_part l = 64 * node_count l.part.now + 5

abbrev pub decreases-is_perhaps : goal.decreases-is_perhaps
decreases-is_perhaps l = 64 * node_count l.part.now + 6

abbrev pub decreases-is_list_part : goal.decreases-is_list_part
decreases-is_list_part l = 64 * node_count l.part.now + 6

abbrev pub decreases-is_block : goal.decreases-is_block
decreases-is_block l = 64 * node_count l.part.now + 6

abbrev pub decreases-are_items : goal.decreases-are_items
decreases-are_items l = 64 * node_counts (trees_of l.items.now) + 20

abbrev pub decreases-is_item : goal.decreases-is_item
decreases-is_item l = 64 * node_count l.item.now + 8

abbrev pub invariant-are_items-loop-item : goal.invariant-are_items-loop-item
invariant-are_items-loop-item l = are_printable (goal_of l.goal) l.gaps (trees_of (drop l.item-index l.items)) ≡ are_printable (goal_of l.goal) l.gaps (trees_of l.items)

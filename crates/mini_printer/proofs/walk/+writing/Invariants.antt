use Rattle.std.proofs.Common.{◌≡◌, ◌+◌, ◌*◌, ◌≤◌, drop, length}
use Rattle.mini_model.specs.Tree.{node_count, node_counts}
use Rattle.mini_node.specs.Children.{trees_of}
use Rattle.mini_print.specs.Printed.{lay_items, lay_block, printers}
use Rattle.mini_tokens.specs.Styles.{style_of}
use Rattle.mini_grammar.specs.Views.{aim_of, goal_of}
use Rattle.mini_printer.proofs.Walked.{is_nil}
use Rattle.mini_printer.proofs.walk.+writing.Given as goal

abbrev pub decreases-write_node : goal.decreases-write_node
decreases-write_node l = 64 * node_count l.node.now

abbrev pub decreases-write_rule : goal.decreases-write_rule
decreases-write_rule l = 64 * node_counts (trees_of l.parts.now) + 40

abbrev pub decreases-write_if : goal.decreases-write_if
decreases-write_if l = 64 * node_counts (trees_of l.parts.now) + 35

abbrev pub decreases-write_production : goal.decreases-write_production
decreases-write_production l = 64 * node_counts (trees_of l.parts.now) + 35

abbrev pub decreases-write_pieces : goal.decreases-write_pieces
decreases-write_pieces l = 64 * node_counts (trees_of l.parts.now) + 12 + length l.pieces.now

abbrev pub decreases-write_part : goal.decreases-write_part
decreases-write_part l = 64 * node_count l.part.now + 10

abbrev pub decreases-write_enclosed : goal.decreases-write_enclosed
decreases-write_enclosed l = 64 * node_count l.part.now + 4

abbrev pub decreases-write_restricted : goal.decreases-write_restricted
decreases-write_restricted l = 64 * node_count l.part.now + 6

abbrev pub decreases-write_perhaps : goal.decreases-write_perhaps
decreases-write_perhaps l = 64 * node_count l.part.now + 6

abbrev pub decreases-write_option : goal.decreases-write_option
decreases-write_option l = 64 * node_count l.part.now + 7

abbrev pub decreases-write_items : goal.decreases-write_items
decreases-write_items l = 64 * node_counts (trees_of l.items.now) + 8

abbrev pub decreases-write_item : goal.decreases-write_item
decreases-write_item l = 64 * node_count l.item.now + 5

abbrev pub decreases-write_block : goal.decreases-write_block
decreases-write_block l = 64 * node_counts (trees_of l.items.now) + 8

abbrev pub decreases-write_undirected : goal.decreases-write_undirected
decreases-write_undirected l = 64 * node_counts (trees_of l.items.now) + 9

abbrev pub decreases-write_items-loop-left : goal.decreases-write_items-loop-left
decreases-write_items-loop-left l = l.left

abbrev pub invariant-write_items-loop-left : goal.invariant-write_items-loop-left
invariant-write_items-loop-left l = (l.left ≤ length l.items) × (l.last ≡ is_nil (drop l.left l.items)) × (l.tokens ≡ lay_items (aim_of l.goal) l.gaps (printers (style_of l.style) (trees_of (drop l.left l.items))) l.initial.tokens)

abbrev pub decreases-write_block-loop-left : goal.decreases-write_block-loop-left
decreases-write_block-loop-left l = l.left

abbrev pub invariant-write_block-loop-left : goal.invariant-write_block-loop-left
invariant-write_block-loop-left l = (l.left ≤ length l.items) × (l.tokens ≡ lay_block (goal_of l.goal) (printers (style_of l.style) (trees_of (drop l.left l.items))) l.initial.tokens)

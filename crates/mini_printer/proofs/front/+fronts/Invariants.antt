use Rattle.std.proofs.Common.{◌+◌, ◌*◌}
use Rattle.mini_model.specs.Tree.{node_count, node_counts}
use Rattle.mini_node.specs.Children.{trees_of}
use Rattle.mini_printer.proofs.front.+fronts.Given as goal

abbrev pub decreases-front_of : goal.decreases-front_of
decreases-front_of l = 8 * node_count l.node.now

abbrev pub decreases-rule_front : goal.decreases-rule_front
decreases-rule_front l = 8 * node_counts (trees_of l.parts.now) + 5

abbrev pub decreases-production_front : goal.decreases-production_front
decreases-production_front l = 8 * node_counts (trees_of l.parts.now) + 4

abbrev pub decreases-pieces_front : goal.decreases-pieces_front
decreases-pieces_front l = 8 * node_counts (trees_of l.parts.now) + 3

abbrev pub decreases-part_front : goal.decreases-part_front
decreases-part_front l = 8 * node_count l.part.now + 2

abbrev pub decreases-items_front : goal.decreases-items_front
decreases-items_front l = 8 * node_counts (trees_of l.items.now) + 1

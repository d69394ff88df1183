use Rattle.std.proofs.Common.{◌≡◌, ◌+◌, ◌*◌}
use Rattle.mini_model.specs.Tree.{node_count, node_counts}
use Rattle.mini_printer.proofs.Orders.{shown_to}
use Rattle.mini_printer.proofs.order.+showing.Given as goal

abbrev pub decreases-shown : goal.decreases-shown
decreases-shown l = 2 * node_count l.node

abbrev pub decreases-show_all : goal.decreases-show_all
decreases-show_all l = 2 * node_counts l.nodes.now + 1

abbrev pub invariant-show_all-loop-at : goal.invariant-show_all-loop-at
invariant-show_all-loop-at l = l.nodes ≡ shown_to l.at l.initial.nodes

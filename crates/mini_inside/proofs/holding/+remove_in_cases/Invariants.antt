use Rattle.std.proofs.Common.{◌-◌}
use Rattle.mini_model.specs.Tree.{children, count}
use Rattle.mini_node.specs.Children.{part}
use Rattle.mini_inside.proofs.holding.+remove_in_cases.Given as goal

abbrev pub decreases-remove_in_cases : goal.decreases-remove_in_cases
decreases-remove_in_cases l = count (children (part l.node.now 1)) - l.from

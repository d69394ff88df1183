use Rattle.std.proofs.Common.{◌-◌}
use Rattle.mini_model.specs.Tree.{children, count}
use Rattle.mini_node.specs.Children.{part}
use Rattle.mini_past.proofs.cases.+substitute_past_in_cases.Given as goal

abbrev pub decreases-substitute_past_in_cases : goal.decreases-substitute_past_in_cases
decreases-substitute_past_in_cases g l = count (children (part l.node.now 1)) - l.from

use Rattle.mini_model.specs.Tree.{node_counts}
use Rattle.mini_switch.proofs.rewrites.drop_unreachable_switch_cases.+left_cases.Given as goal

abbrev pub decreases-left_cases : goal.decreases-left_cases
decreases-left_cases l = node_counts l.cases

use Rattle.mini_model.specs.Tree.{node_counts}
use Rattle.mini_switch.proofs.rewrites.drop_unreachable_switch_cases.+running.Given as goal

abbrev pub decreases-running : goal.decreases-running
decreases-running l = node_counts l.cases

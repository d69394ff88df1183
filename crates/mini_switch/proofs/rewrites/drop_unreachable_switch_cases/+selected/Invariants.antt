use Rattle.std.proofs.Common.{length}
use Rattle.mini_switch.proofs.rewrites.drop_unreachable_switch_cases.+selected.Given as goal

abbrev pub decreases-selected : goal.decreases-selected
decreases-selected l = length l.cases.now

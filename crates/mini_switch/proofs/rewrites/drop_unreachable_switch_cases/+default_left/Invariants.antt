use Rattle.std.proofs.Common.{length}
use Rattle.mini_switch.proofs.rewrites.drop_unreachable_switch_cases.+default_left.Given as goal

abbrev pub decreases-default_left : goal.decreases-default_left
decreases-default_left l = length l.cases.now

use Rattle.std.proofs.Common.{length}
use Rattle.mini_switch.proofs.rewrites.drop_unreachable_switch_cases.+any_default.Given as goal

abbrev pub decreases-any_default : goal.decreases-any_default
decreases-any_default l = length l.cases.now

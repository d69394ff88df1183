use Rattle.std.proofs.Common.{length}
use Rattle.mini_switch.proofs.rewrites.drop_unreachable_switch_cases.+two_defaults.Given as goal

abbrev pub decreases-two_defaults : goal.decreases-two_defaults
decreases-two_defaults l = length l.cases.now

use Rattle.std.proofs.Common.{length}
use Rattle.mini_switch.proofs.rewrites.drop_unreachable_switch_cases.+rest_goes.Given as goal

abbrev pub decreases-rest_goes : goal.decreases-rest_goes
decreases-rest_goes l = length l.cases.now

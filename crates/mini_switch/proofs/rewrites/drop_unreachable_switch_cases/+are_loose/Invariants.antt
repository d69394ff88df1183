use Rattle.std.proofs.Common.{length}
use Rattle.mini_switch.proofs.rewrites.drop_unreachable_switch_cases.+are_loose.Given as goal

abbrev pub decreases-are_loose : goal.decreases-are_loose
decreases-are_loose l = length l.cases.now

use Rattle.std.proofs.Common.{length}
use Rattle.mini_switch.proofs.rewrites.drop_unreachable_switch_cases.+are_cases.Given as goal

abbrev pub decreases-are_cases : goal.decreases-are_cases
decreases-are_cases l = length l.nodes.now

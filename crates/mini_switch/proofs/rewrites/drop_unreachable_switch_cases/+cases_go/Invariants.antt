use Rattle.std.proofs.Common.{length}
use Rattle.mini_switch.proofs.rewrites.drop_unreachable_switch_cases.+cases_go.Given as goal

abbrev pub decreases-cases_go : goal.decreases-cases_go
decreases-cases_go l = length l.cases.now

use Rattle.std.proofs.Common.{length}
use Rattle.mini_switch.proofs.rewrites.drop_unreachable_switch_cases.+all_go.Given as goal

abbrev pub decreases-all_go : goal.decreases-all_go
decreases-all_go l = length l.statements.now

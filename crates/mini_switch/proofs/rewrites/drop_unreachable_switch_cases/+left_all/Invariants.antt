use Rattle.std.proofs.Common.{length}
use Rattle.mini_switch.proofs.rewrites.drop_unreachable_switch_cases.+left_all.Given as goal

abbrev pub decreases-left_all : goal.decreases-left_all
decreases-left_all l = length l.statements.now

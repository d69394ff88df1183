use Rattle.std.proofs.Common.{length}
use Rattle.mini_switch.proofs.rewrites.drop_unreachable_switch_cases.+are_plain_declarators.Given as goal

abbrev pub decreases-are_plain_declarators : goal.decreases-are_plain_declarators
decreases-are_plain_declarators l = length l.nodes.now

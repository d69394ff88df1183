use Rattle.std.proofs.Common.{◌∙◌}
use Rattle.mini_switch.proofs.DeadCases.{some_is}
use Rattle.mini_switch.proofs.rewrites.drop_unreachable_switch_cases.some_plain.Goals as goal

pub returns-in-len1-up : goal.returns-in-len1-up
returns-in-len1-up c = c.are_plain_declarators.ensures ∙ some_is c.args.nodes.now c.in-len1-up.len_at_least

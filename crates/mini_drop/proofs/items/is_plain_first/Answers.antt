use Rattle.std.proofs.Common.{◌∙◌}
use Rattle.mini_drop.proofs.Told.{plain_first, no_plain_first}
use Rattle.mini_drop.proofs.items.is_plain_first.Goals as goal

pub returns-in-Some : goal.returns-in-Some
returns-in-Some c = c.is_plain.ensures ∙ plain_first c.args.nodes.now c.in-Some.id.now c.in-Some.ensures.value

pub returns-in-None : goal.returns-in-None
returns-in-None c = no_plain_first c.args.nodes.now c.in-None.ensures.value

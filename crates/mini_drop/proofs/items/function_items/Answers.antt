use Rattle.std.proofs.Common.{ap, ◌∙◌}
use Rattle.mini_context.specs.Tables.{mark_at}
use Rattle.mini_drop.specs.Asked as item
use Rattle.mini_drop.proofs.Told.{bound_first, none_first}
use Rattle.mini_drop.proofs.items.function_items.Goals as goal

pub returns-in-Some : goal.returns-in-Some
returns-in-Some c = c.one_if.ensures ∙ ap item.one_if c.binds.ensures ∙ bound_first (mark_at c.args.set.now) c.args.nodes.now c.in-Some.id.now c.in-Some.ensures.value

pub returns-in-None : goal.returns-in-None
returns-in-None c = none_first (mark_at c.args.set.now) c.args.nodes.now c.in-None.ensures.value

use Rattle.std.proofs.Common.{ap, ◌∙◌}
use Rattle.std.specs.Prelude.{slice_index}
use Rattle.mini_model.specs.Tree.{children}
use Rattle.mini_node.specs.Walks.{from_first}
use Rattle.mini_context.specs.Tables.{mark_at}
use Rattle.mini_drop.specs.Going.{declarators_later}
use Rattle.mini_drop.proofs.Later.{got_child, got_none}
use Rattle.mini_drop.proofs.going.declaration_later.Goals as goal

pub returns-in-Some : goal.returns-in-Some
returns-in-Some c = c.declarators_later.ensures ∙ ap (declarators_later (mark_at c.args.set.now) (slice_index c.args.rounds.now)) (from_first c.children.result.now ∙ c.children.ensures ∙ ap children (got_child c.args.nodes.now 0 c.in-Some.list.now c.in-Some.ensures.value))

pub returns-in-None : goal.returns-in-None
returns-in-None c = ap (λ t. declarators_later (mark_at c.args.set.now) (slice_index c.args.rounds.now) (children t)) (got_none c.args.nodes.now 0 c.in-None.ensures.value)

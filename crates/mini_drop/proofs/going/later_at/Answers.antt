use Rattle.std.proofs.Common.{ap, ◌∙◌}
use Rattle.std.specs.Prelude.{slice_index}
use Rattle.mini_context.specs.Tables.{mark_at}
use Rattle.mini_drop.specs.Going.{later_in}
use Rattle.mini_drop.proofs.Later.{got_child, got_none}
use Rattle.mini_drop.proofs.going.later_at.Goals as goal

pub returns-in-Some : goal.returns-in-Some
returns-in-Some c = c.later_in.ensures ∙ ap (later_in (mark_at c.args.set.now) (slice_index c.args.rounds.now) c.args.round) (got_child c.args.nodes.now c.args.at c.in-Some.node.now c.in-Some.ensures.value)

pub returns-in-None : goal.returns-in-None
returns-in-None c = ap (later_in (mark_at c.args.set.now) (slice_index c.args.rounds.now) c.args.round) (got_none c.args.nodes.now c.args.at c.in-None.ensures.value)

use Rattle.std.proofs.Common.{ap, ◌∙◌}
use Rattle.std.specs.Prelude.{slice_index}
use Rattle.mini_node.specs.Children.{names_of}
use Rattle.mini_drop.specs.Going.{first_round}
use Rattle.mini_drop.proofs.Later.{got_child, got_none}
use Rattle.mini_drop.proofs.going.first_round.Goals as goal

pub returns-in-Some : goal.returns-in-Some
returns-in-Some c = c.round_of.ensures ∙ ap (first_round (slice_index c.args.rounds.now)) (c.name.ensures ∙ ap names_of (got_child c.args.nodes.now 0 c.in-Some.id.now c.in-Some.ensures.value))

pub returns-in-None : goal.returns-in-None
returns-in-None c = ap (λ t. first_round (slice_index c.args.rounds.now) (names_of t)) (got_none c.args.nodes.now 0 c.in-None.ensures.value)

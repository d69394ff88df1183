use Rattle.std.proofs.Common.{subst}
use Rattle.mini_model.specs.Tree.{children}
use Rattle.mini_past.specs.LetPlaces.{ToldOfAll}
use Rattle.mini_past.proofs.StillTold.{nowhere_of_all}
use Rattle.mini_past.proofs.Swept.{swept_none, swept_on}
use Rattle.mini_past.proofs.sweeping.sweep.Goals as goal

pub loop-at-init : goal.loop-at-init
loop-at-init g c = (swept_none (g.S.SteadyNames.sets c.args.steady.now c.args.body) (g.S.PastNames.lets c.args.steady.now) c.args.outside.now c.tally_from-tallies.result c.args.list.now (record { is_list = c.requires.list; unseen = c.requires.unseen; tallied = c.tally_from-tallies.ensures }), nowhere_of_all c.list_places-lets.result (children c.args.list.now) (subst (ToldOfAll c.list_places-lets.result) c.children.ensures c.list_places-lets.ensures))

pub loop-at-preserved : goal.loop-at-preserved
loop-at-preserved g c = (swept_on (g.S.SteadyNames.sets c.args.steady.now c.args.body) (g.S.PastNames.lets c.args.steady.now) c.args.outside.now c.tally_from-tallies.result c.args.list.now _ _ c.loop-at.invariant.0 c.sweep_statement.ensures.swept, c.sweep_statement.ensures.nowhere)

pub returns : goal.returns
returns g c = c.loop-at.invariant.0.gone

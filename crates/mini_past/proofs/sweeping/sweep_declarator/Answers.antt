use Rattle.mini_past.proofs.Swept.{swept_on}
use Rattle.mini_past.proofs.sweeping.sweep_declarator.Goals as goal

pub returns-clause-swept : goal.returns-clause-swept
returns-clause-swept g c = swept_on (g.S.SteadyNames.sets c.args.steady.now c.args.body) (g.S.PastNames.lets c.args.steady.now) c.args.outside.now c.args.tallies.now c.args.list.now c.sweep_last.new.list c.sweep_next.new.list c.sweep_last.ensures.swept c.sweep_next.ensures.swept

use Rattle.std.proofs.Common.{◌-◌, arith}
use Rattle.mini_past.proofs.StillTold.{fewer_told, nowhere_at}
use Rattle.mini_past.proofs.Swept.{swept_none, swept_on}
use Rattle.mini_past.proofs.sweeping.sweep_statement.Goals as goal

pub loop-passed-init : goal.loop-passed-init
loop-passed-init g c = (
  swept_none (g.S.SteadyNames.sets c.args.steady.now c.args.body) (g.S.PastNames.lets c.args.steady.now) c.args.outside.now c.args.tallies.now c.args.list.now c.requires.calm,
  λ n e. fewer_told c.put_first_places.new.lets c.args.list.now c.args.at _ n (omega (arith, e, c.declarators_at-count.ensures)) c.put_first_places.ensures,
)

pub sweep_declarator-requires-clause-told : goal.sweep_declarator-requires-clause-told
sweep_declarator-requires-clause-told g c = fewer_told c.put_first_places.new.lets c.loop-passed.list c.args.at (c.declarators_at-count.result - c.loop-passed.passed) _ (omega arith) (c.loop-passed.invariant.1 (c.declarators_at-count.result - c.loop-passed.passed) (omega arith))

pub loop-passed-preserved : goal.loop-passed-preserved
loop-passed-preserved g c = (
  swept_on (g.S.SteadyNames.sets c.args.steady.now c.args.body) (g.S.PastNames.lets c.args.steady.now) c.args.outside.now c.args.tallies.now c.args.list.now _ _ c.loop-passed.invariant.0 c.sweep_declarator.ensures.swept,
  λ n e. fewer_told c.put_first_places.new.lets c.sweep_declarator.new.list c.args.at _ n (omega (arith, e)) c.sweep_declarator.ensures.told,
)

pub returns-clause-swept : goal.returns-clause-swept
returns-clause-swept g c = c.loop-passed.invariant.0

pub returns-clause-nowhere : goal.returns-clause-nowhere
returns-clause-nowhere g c = nowhere_at c.put_first_places.new.lets c.loop-passed.list c.args.at 0 (c.loop-passed.invariant.1 0 (omega arith))

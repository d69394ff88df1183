use Rattle.std.proofs.Common.{sym, arith}
use Rattle.mini_rows.specs.Past.{passes_any_at}
use Rattle.mini_past.specs.SubstitutePast.{held_at}
use Rattle.mini_past.proofs.Firsts.{all_start, all_step, all_end, all_stopped}
use Rattle.mini_past.proofs.reaching.all_pass_before.Goals as goal

pub loop-place-init : goal.loop-place-init
loop-place-init g c = all_start (passes_any_at (held_at (g.S.SteadyNames.sets c.args.steady.now c.args.body) c.args.statements.now c.args.at c.args.declarators.now c.args.which) c.args.gathered c.args.init.now c.args.shape.now) c.args.nodes.now

pub returns-then-not-passes_any_at : goal.returns-then-not-passes_any_at
returns-then-not-passes_any_at g c = all_stopped (passes_any_at (held_at (g.S.SteadyNames.sets c.args.steady.now c.args.body) c.args.statements.now c.args.at c.args.declarators.now c.args.which) c.args.gathered c.args.init.now c.args.shape.now) c.args.nodes.now c.loop-place.place c.args.end c.child.result.now (omega arith) (omega arith) c.child.ensures.value (sym c.if-not-passes_any_at.ensures)

pub loop-place-preserved : goal.loop-place-preserved
loop-place-preserved g c = all_step (passes_any_at (held_at (g.S.SteadyNames.sets c.args.steady.now c.args.body) c.args.statements.now c.args.at c.args.declarators.now c.args.which) c.args.gathered c.args.init.now c.args.shape.now) c.args.nodes.now c.loop-place.place _ c.child.result.now (omega arith) (omega arith) c.child.ensures.value (sym c.if-not-passes_any_at.ensures) c.loop-place.invariant

pub returns : goal.returns
returns g c = all_end (passes_any_at (held_at (g.S.SteadyNames.sets c.args.steady.now c.args.body) c.args.statements.now c.args.at c.args.declarators.now c.args.which) c.args.gathered c.args.init.now c.args.shape.now) c.args.nodes.now c.loop-place.place c.args.end (omega arith) (omega arith) c.loop-place.invariant

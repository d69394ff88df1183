use Rattle.std.proofs.Common.{arith}
use Rattle.mini_steps.specs.Rows.{rows_in}
use Rattle.mini_steps.specs.Steps.{no_step}
use Rattle.mini_steps.proofs.Ways.{one_more, all_taken, no_more}
use Rattle.mini_steps.proofs.steps.take_steps.Goals as goal

pub loop-at-init : goal.loop-at-init
loop-at-init c = (no_step c.args.program.now, omega arith)

pub loop-at-preserved : goal.loop-at-preserved
loop-at-preserved c = (
  one_more (rows_in c.args.context.now) c.args.steps.now c.loop-at.at c.index-steps-at.result c.args.program.now c.loop-at.program c.take_step.new.program c.loop-at.changed c.in_ok-changed.changed c.loop-at-test.true c.index-steps-at.is c.loop-at.invariant.0 c.in_ok-changed.ensures,
  no_more (rows_in c.args.context.now) c.index-steps-at.result c.loop-at.program c.take_step.new.program c.loop-at.changed c.in_ok-changed.changed c.loop-at.at c.loop-at.invariant.1 c.in_ok-changed.ensures,
)

pub returns-clause-followed : goal.returns-clause-followed
returns-clause-followed c = all_taken (rows_in c.args.context.now) c.args.steps.now c.loop-at.at c.args.program.now c.loop-at.program c.loop-at.changed c.loop-at-test.false c.loop-at.invariant.0

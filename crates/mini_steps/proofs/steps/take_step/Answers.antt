use Rattle.mini_steps.specs.Rows.{rows_in}
use Rattle.mini_steps.proofs.Ways.{was_taken, was_passed}
use Rattle.mini_steps.proofs.steps.take_step.Goals as goal

pub returns-then-branch : goal.returns-then-branch
returns-then-branch c = was_taken (rows_in c.args.context.now) c.args.step.now c.as_slice-path.result.now c.args.program.now c.step_at.new.node c.args.changed c.in_ok-step_at.field-0 c.as_slice-path.ensures c.if-branch.true c.in_ok-step_at.ensures

pub returns-else-branch : goal.returns-else-branch
returns-else-branch c = was_passed (rows_in c.args.context.now) c.args.step.now c.as_slice-path.result.now c.args.program.now c.step_at.new.node c.args.changed c.in_ok-step_at.field-0 c.as_slice-path.ensures c.if-branch.false c.in_ok-step_at.ensures

use Rattle.std.proofs.Common.{arith}
use Rattle.mini_terms.proofs.Mixed.{less_goes_on, less_differs, less_ends, less_at_end}
use Rattle.mini_terms.proofs.literals.is_less.Goals as goal

pub returns-then-at-right : goal.returns-then-at-right
returns-then-at-right c = less_ends c.args.left.now c.args.right.now c.loop-at.at (omega arith) (omega arith) c.loop-at.invariant

pub returns-then-left-at : goal.returns-then-left-at
returns-then-left-at c = less_differs c.args.left.now c.args.right.now c.loop-at.at (omega arith) (omega arith) c.if-left-at.true c.loop-at.invariant

pub loop-at-preserved : goal.loop-at-preserved
loop-at-preserved c = less_goes_on c.args.left.now c.args.right.now c.loop-at.at (omega arith) (omega arith) c.if-left-at.false c.loop-at.invariant

pub returns : goal.returns
returns c = less_at_end c.args.left.now c.args.right.now c.loop-at.at (omega arith) (omega arith) c.loop-at.invariant

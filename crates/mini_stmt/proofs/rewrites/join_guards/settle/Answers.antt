use Rattle.mini_stmt.proofs.Guards.{settled_neighbours, settled_after}
use Rattle.mini_stmt.proofs.rewrites.join_guards.settle.Goals as goal

pub returns-then-branch : goal.returns-then-branch
returns-then-branch c = settled_neighbours c.args.list.now c.join_neighbours.new.list c.in_ok-join_neighbours.field-0 c.if-branch.true c.in_ok-join_neighbours.ensures

pub returns : goal.returns
returns c = settled_after c.args.list.now c.join_neighbours.new.list c.drop_unreached.new.list c.in_ok-join_neighbours.field-0 c.drop_unreached.result c.if-branch.false c.in_ok-join_neighbours.ensures c.drop_unreached.ensures

use Rattle.mini_stmt.specs.MinimizeStatements.{switches_of}
use Rattle.mini_stmt.proofs.Assignments.{assignments_first, others_after}
use Rattle.mini_stmt.proofs.statements.minimize_statements.Goals as goal

pub returns : goal.returns
returns c = others_after (switches_of c.args.options) c.args.node.now c.join_assignments.new.node c.join_others.new.node c.in_ok-join_assignments.field-0 c.join_others.result c.if-branch.false c.in_ok-join_assignments.ensures c.join_others.ensures

pub returns-then-branch : goal.returns-then-branch
returns-then-branch c = assignments_first (switches_of c.args.options) c.args.node.now c.join_assignments.new.node c.in_ok-join_assignments.field-0 c.if-branch.true c.in_ok-join_assignments.ensures

use Rattle.mini_stmt.specs.MinimizeStatements.{switches_of}
use Rattle.mini_stmt.proofs.Guards.{joined_after}
use Rattle.mini_stmt.proofs.statements.join_others.Goals as goal

pub returns : goal.returns
returns c = joined_after (switches_of c.args.options) c.args.node.now c.join_statements.new.node c.join_guards.new.node c.in_ok-join_statements.field-0 c.join_guards.result c.if-branch.false c.in_ok-join_statements.ensures c.join_guards.ensures

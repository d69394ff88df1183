use Rattle.std.proofs.Common.{sym}
use Rattle.mini_stmt.specs.MinimizeStatements.{switches_of}
use Rattle.mini_stmt.proofs.Bodies.{body_first, body_after}
use Rattle.mini_stmt.proofs.rewrites.minimize_body.minimize_body.Goals as goal

pub returns-then-branch : goal.returns-then-branch
returns-then-branch c = body_first (switches_of c.args.options) c.args.node.now c.minimize_statements.new.node c.in_ok-minimize_statements.field-0 (sym c.if-not-is_listed.ensures) c.if-branch.true c.in_ok-minimize_statements.ensures

pub returns : goal.returns
returns c = body_after (switches_of c.args.options) c.args.node.now c.minimize_statements.new.node c.end_body.new.node c.in_ok-minimize_statements.field-0 c.end_body.result c.if-branch.false c.in_ok-minimize_statements.ensures c.end_body.ensures

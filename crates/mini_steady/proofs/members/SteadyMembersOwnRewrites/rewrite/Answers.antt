use Rattle.std.proofs.Common.{subst, sym}
use Rattle.mini_rows.specs.Editions.{SteadyRowsIn}
use Rattle.mini_steady.specs.Declarations.{known_of}
use Rattle.mini_steady.specs.Own.{AppliedHere}
use Rattle.mini_steady.proofs.IdleRows.{statement_applied}
use Rattle.mini_steady.proofs.members.SteadyMembersOwnRewrites.rewrite.Goals as goal

pub returns-in_ok-minimize_expression-in-Expr : goal.returns-in_ok-minimize_expression-in-Expr
returns-in_ok-minimize_expression-in-Expr g c =
    let made = c.in_ok-minimize_expression-in-Expr in
    let V = known_of (g.S.SteadyNames.sets c.args.steady.now) c.args.body.now in
    subst (λ p. AppliedHere (SteadyRowsIn (g.S.SteadyNames.orders c.args.steady.now).edition V) p c.args.node.now c.minimize_expression.new.node made.field-0) (sym c.in-Expr.is) made.ensures

pub returns-in-Stmt : goal.returns-in-Stmt
returns-in-Stmt g c =
    let V = known_of (g.S.SteadyNames.sets c.args.steady.now) c.args.body.now in
    let done = c.drop_idle_statement in
    subst (λ p. AppliedHere (SteadyRowsIn (g.S.SteadyNames.orders c.args.steady.now).edition V) p c.args.node.now done.new.node done.result) (sym c.in-Stmt.is) (statement_applied (g.S.SteadyNames.orders c.args.steady.now).edition V c.in-Stmt.field-0 c.args.node.now done.new.node done.result done.ensures.tree done.ensures.said)

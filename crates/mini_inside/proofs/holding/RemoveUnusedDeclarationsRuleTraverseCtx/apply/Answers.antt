use Rattle.std.proofs.Common.{sym, subst}
use Rattle.mini_unused.specs.RemoveUnusedDeclaration.{allowed}
use Rattle.mini_inside.specs.Holding.{Applied}
use Rattle.mini_inside.proofs.Holders.{as_method, known}
use Rattle.mini_inside.proofs.holding.RemoveUnusedDeclarationsRuleTraverseCtx.apply.Goals as goal

pub returns-in_ok-remove_unused_declaration-in-Stmt-clause-applied : goal.returns-in_ok-remove_unused_declaration-in-Stmt-clause-applied
returns-in_ok-remove_unused_declaration-in-Stmt-clause-applied c =
    let made = c.in_ok-remove_unused_declaration-in-Stmt in
    let W = allowed c.args.context.now in
    known c.args.context.now c.args.place c.args.node.now c.remove_unused_declaration.new.node made.field-0 (subst (λ p. Applied W p c.args.node.now c.remove_unused_declaration.new.node made.field-0) (sym c.in-Stmt.is) (made.ensures c.in-Stmt.field-0))

pub returns-in_ok-remove_unused_in_arrow-in-Expr-clause-applied : goal.returns-in_ok-remove_unused_in_arrow-in-Expr-clause-applied
returns-in_ok-remove_unused_in_arrow-in-Expr-clause-applied c =
    let made = c.in_ok-remove_unused_in_arrow-in-Expr in
    let W = allowed c.args.context.now in
    known c.args.context.now c.args.place c.args.node.now c.remove_unused_in_arrow.new.node made.field-0 (subst (λ p. Applied W p c.args.node.now c.remove_unused_in_arrow.new.node made.field-0) (sym c.in-Expr.is) (made.ensures c.in-Expr.field-0))

pub returns-in_ok-remove_unused_in_function-in-Method-clause-applied : goal.returns-in_ok-remove_unused_in_function-in-Method-clause-applied
returns-in_ok-remove_unused_in_function-in-Method-clause-applied c =
    let made = c.in_ok-remove_unused_in_function-in-Method in
    let W = allowed c.args.context.now in
    known c.args.context.now c.args.place c.args.node.now c.remove_unused_in_function.new.node made.field-0
    (subst (λ p. Applied W p c.args.node.now c.remove_unused_in_function.new.node made.field-0) (sym c.in-Method.is) (as_method W c.args.node.now c.remove_unused_in_function.new.node made.field-0 made.ensures))

pub returns-in_ok-remove_unused_in_module-in-Elsewhere-clause-applied : goal.returns-in_ok-remove_unused_in_module-in-Elsewhere-clause-applied
returns-in_ok-remove_unused_in_module-in-Elsewhere-clause-applied c =
    let made = c.in_ok-remove_unused_in_module-in-Elsewhere in
    let W = allowed c.args.context.now in
    known c.args.context.now c.args.place c.args.node.now c.remove_unused_in_module.new.node made.field-0
    (subst (λ p. Applied W p c.args.node.now c.remove_unused_in_module.new.node made.field-0) (sym c.in-Elsewhere.is) made.ensures)

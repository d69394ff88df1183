use Rattle.std.proofs.Common.{subst, sym}
use Rattle.mini_tree.specs.Rule.{Applied}
use Rattle.mini_logic.specs.DeMorganForVoidExpr.{Gives, Rests}
use Rattle.mini_logic.proofs.DeMorganForVoidExpr.{applied}
use Rattle.mini_logic.proofs.rewrites.de_morgan_for_void_expr.MinimizeVoidRule.apply.Goals as goal

pub returns-in_ok-de_morgan_for_void_expr-in-Stmt-clause-applied : goal.returns-in_ok-de_morgan_for_void_expr-in-Stmt-clause-applied
returns-in_ok-de_morgan_for_void_expr-in-Stmt-clause-applied g c = λ o q k.
    subst (λ p. Applied Gives Rests p c.args.node.now c.de_morgan_for_void_expr.new.node c.in_ok-de_morgan_for_void_expr-in-Stmt.field-0) (sym c.in-Stmt.is) (applied c.in-Stmt.field-0 c.args.node.now c.de_morgan_for_void_expr.new.node c.in_ok-de_morgan_for_void_expr-in-Stmt.field-0 c.in_ok-de_morgan_for_void_expr-in-Stmt.ensures.tree c.in_ok-de_morgan_for_void_expr-in-Stmt.ensures.said)

pub returns-in_ok-de_morgan_for_part-in-Expr-clause-applied : goal.returns-in_ok-de_morgan_for_part-in-Expr-clause-applied
returns-in_ok-de_morgan_for_part-in-Expr-clause-applied g c = λ o q k.
    subst (λ p. Applied Gives Rests p c.args.node.now c.de_morgan_for_part.new.node c.in_ok-de_morgan_for_part-in-Expr.field-0) (sym c.in-Expr.is) c.in_ok-de_morgan_for_part-in-Expr.ensures

use Rattle.std.proofs.Common.{subst, sym}
use Rattle.mini_tree.specs.Rule.{Applied}
use Rattle.mini_logic.specs.MinimizeUnaryExpression.{Gives, Rests}
use Rattle.mini_logic.proofs.MinimizeUnaryExpression.{applied}
use Rattle.mini_logic.proofs.rewrites.minimize_unary_expression.MinimizeUnaryRule.apply.Goals as goal

pub returns-in_ok-minimize_unary-in-Expr-clause-applied : goal.returns-in_ok-minimize_unary-in-Expr-clause-applied
returns-in_ok-minimize_unary-in-Expr-clause-applied g c = λ o q k.
    subst (λ p. Applied Gives Rests p c.args.node.now c.minimize_unary.new.node c.in_ok-minimize_unary-in-Expr.field-0) (sym c.in-Expr.is) (applied c.in-Expr.seat c.args.node.now c.minimize_unary.new.node c.in_ok-minimize_unary-in-Expr.field-0 c.in_ok-minimize_unary-in-Expr.ensures.tree c.in_ok-minimize_unary-in-Expr.ensures.said)

use Rattle.std.proofs.Common.{subst, sym}
use Rattle.mini_tree.specs.Rule.{Applied}
use Rattle.mini_fold.specs.FoldKnown.{Gives, Rests}
use Rattle.mini_fold.proofs.KnownSides.{applied, statement_applied}
use Rattle.mini_fold.proofs.rewrites.fold_known.FoldKnownRule.apply.Goals as goal

pub returns-in-Expr-clause-applied : goal.returns-in-Expr-clause-applied
returns-in-Expr-clause-applied g c = λ o q k.
    subst (λ p. Applied Gives Rests p c.args.node.now c.fold_expression.new.node c.fold_expression.result) (sym c.in-Expr.is) (applied c.in-Expr.seat c.args.node.now c.fold_expression.new.node c.fold_expression.result c.fold_expression.ensures.tree c.fold_expression.ensures.said)

pub returns-in-Stmt-clause-applied : goal.returns-in-Stmt-clause-applied
returns-in-Stmt-clause-applied g c = λ o q k.
    subst (λ p. Applied Gives Rests p c.args.node.now c.fold_statement.new.node c.fold_statement.result) (sym c.in-Stmt.is) (statement_applied c.in-Stmt.field-0 c.args.node.now c.fold_statement.new.node c.fold_statement.result c.fold_statement.ensures.tree c.fold_statement.ensures.said)

use Rattle.std.proofs.Common.{subst, sym}
use Rattle.mini_tree.specs.Rule.{Applied}
use Rattle.mini_fold.specs.FoldOperands.{Gives, Rests}
use Rattle.mini_fold.proofs.Operands.{applied}
use Rattle.mini_fold.proofs.rewrites.fold_operands.FoldOperandsRule.apply.Goals as goal

pub returns-in_ok-fold_operands-in-Expr-clause-applied : goal.returns-in_ok-fold_operands-in-Expr-clause-applied
returns-in_ok-fold_operands-in-Expr-clause-applied g c = λ o q k.
    subst (λ p. Applied Gives Rests p c.args.node.now c.fold_operands.new.node c.in_ok-fold_operands-in-Expr.field-0) (sym c.in-Expr.is) (applied c.in-Expr.seat c.args.node.now c.fold_operands.new.node c.in_ok-fold_operands-in-Expr.field-0 c.in_ok-fold_operands-in-Expr.ensures.tree c.in_ok-fold_operands-in-Expr.ensures.said)

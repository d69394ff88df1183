use Rattle.std.proofs.Common.{sym, subst}
use Rattle.mini_tree.specs.Rule.{Applied}
use Rattle.mini_fold.specs.FoldTemplates.{Gives, Rests}
use Rattle.mini_fold.proofs.rewrites.fold_templates.FoldTemplatesRule.apply.Goals as goal

pub returns-in_ok-fold_templates-in-Expr-clause-applied :
    goal.returns-in_ok-fold_templates-in-Expr-clause-applied
returns-in_ok-fold_templates-in-Expr-clause-applied g c o q k =
    subst (λ p. Applied Gives Rests p c.args.node.now c.fold_templates.new.node c.in_ok-fold_templates-in-Expr.field-0) (sym c.in-Expr.is) c.in_ok-fold_templates-in-Expr.ensures

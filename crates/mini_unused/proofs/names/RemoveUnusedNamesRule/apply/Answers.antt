use Rattle.std.proofs.Common.{sym, subst}
use Rattle.mini_unused.specs.RemoveUnusedName.{switches_of, Applied}
use Rattle.mini_unused.proofs.names.RemoveUnusedNamesRule.apply.Goals as goal

pub returns-in-Expr-clause-applied : goal.returns-in-Expr-clause-applied
returns-in-Expr-clause-applied g c =
    λ o q k. subst (λ r. Applied (switches_of r) c.args.place c.args.node.now c.remove_unused_name.new.node c.remove_unused_name.result) (c.options.ensures o q k)
    (subst (λ p. Applied (switches_of c.options.result) p c.args.node.now c.remove_unused_name.new.node c.remove_unused_name.result) (sym c.in-Expr.is) (c.remove_unused_name.ensures c.in-Expr.field-0))

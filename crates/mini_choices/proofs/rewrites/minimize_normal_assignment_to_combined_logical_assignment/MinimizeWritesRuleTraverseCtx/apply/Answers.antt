use Rattle.std.proofs.Common.{subst, sym}
use Rattle.mini_tree.specs.Rule.{Applied}
use Rattle.mini_choices.specs.MinimizeNormalAssignmentToCombinedLogicalAssignment.{Gives, Rests}
use Rattle.mini_choices.proofs.Writes.{applied}
use Rattle.mini_choices.proofs.rewrites.minimize_normal_assignment_to_combined_logical_assignment.MinimizeWritesRuleTraverseCtx.apply.Goals as goal

pub returns-in_ok-minimize_write-in-Expr-clause-applied : goal.returns-in_ok-minimize_write-in-Expr-clause-applied
returns-in_ok-minimize_write-in-Expr-clause-applied c = λ o q k.
    let made = c.in_ok-minimize_write-in-Expr in
    subst (λ p. Applied (Gives o q) (Rests o q) p c.args.node.now c.minimize_write.new.node made.field-0) (sym c.in-Expr.is)
    (applied c.args.context.now c.in-Expr.seat c.args.node.now c.minimize_write.new.node made.field-0 made.ensures.tree made.ensures.said o q k)

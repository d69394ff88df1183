use Rattle.std.proofs.Common.{subst, sym}
use Rattle.mini_model.specs.declared.place.Position.TheVariants.{Expr}
use Rattle.mini_tree.specs.Rule.{Applied}
use Rattle.mini_choices.specs.Choices.{Gives, Rests}
use Rattle.mini_choices.proofs.Choices.{applied}
use Rattle.mini_choices.proofs.rewrites.minimize_choices.MinimizeChoicesRule.apply.Goals as goal

pub returns-in_ok-minimize_choice-in-Expr-clause-applied : goal.returns-in_ok-minimize_choice-in-Expr-clause-applied
returns-in_ok-minimize_choice-in-Expr-clause-applied g c = λ o q k.
    let made = c.in_ok-minimize_choice-in-Expr in
    let told = c.options.ensures o q k in
    subst (λ p. Applied (Gives o) (Rests o) p c.args.node.now c.minimize_choice.new.node made.field-0) (sym c.in-Expr.is)
    (subst (λ x. Applied (Gives x) (Rests x) (Expr c.in-Expr.seat) c.args.node.now c.minimize_choice.new.node made.field-0) told (applied c.options.result c.in-Expr.seat c.args.node.now c.minimize_choice.new.node made.field-0 made.ensures.tree made.ensures.said))

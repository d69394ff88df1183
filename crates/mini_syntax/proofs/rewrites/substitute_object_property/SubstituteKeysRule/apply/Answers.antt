use Rattle.std.proofs.Common.{subst, sym}
use Rattle.mini_tree.specs.Rule.{Applied}
use Rattle.mini_syntax.specs.SubstituteObjectProperty.{Gives, Rests}
use Rattle.mini_syntax.proofs.Keys.{applied}
use Rattle.mini_syntax.proofs.rewrites.substitute_object_property.SubstituteKeysRule.apply.Goals as goal

pub returns-in_ok-substitute_object_property-in-Expr-clause-applied : goal.returns-in_ok-substitute_object_property-in-Expr-clause-applied
returns-in_ok-substitute_object_property-in-Expr-clause-applied g c = λ o q k.
    subst (λ p. Applied Gives Rests p c.args.node.now c.substitute_object_property.new.node c.in_ok-substitute_object_property-in-Expr.field-0) (sym c.in-Expr.is) (applied c.in-Expr.field-0 c.args.node.now c.substitute_object_property.new.node c.in_ok-substitute_object_property-in-Expr.field-0 c.in_ok-substitute_object_property-in-Expr.ensures.tree c.in_ok-substitute_object_property-in-Expr.ensures.said)

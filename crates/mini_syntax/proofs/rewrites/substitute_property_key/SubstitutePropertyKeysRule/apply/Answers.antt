use Rattle.std.proofs.Common.{subst, sym}
use Rattle.mini_tree.specs.Rule.{Applied}
use Rattle.mini_syntax.specs.SubstitutePropertyKey.{Gives, Rests}
use Rattle.mini_syntax.proofs.PropertyKeys.{applied}
use Rattle.mini_syntax.proofs.rewrites.substitute_property_key.SubstitutePropertyKeysRule.apply.Goals as goal

pub returns-in_ok-rewrite_key-in-Elsewhere-clause-applied : goal.returns-in_ok-rewrite_key-in-Elsewhere-clause-applied
returns-in_ok-rewrite_key-in-Elsewhere-clause-applied g c = λ o q k.
    subst (λ p. Applied Gives Rests p c.args.node.now c.rewrite_key.new.node c.in_ok-rewrite_key-in-Elsewhere.field-0) (sym c.in-Elsewhere.is) (applied c.args.node.now c.rewrite_key.new.node c.in_ok-rewrite_key-in-Elsewhere.field-0 c.in_ok-rewrite_key-in-Elsewhere.ensures.tree c.in_ok-rewrite_key-in-Elsewhere.ensures.said)

use Rattle.std.proofs.Common.{◌∙◌, ◌∷◌, ap, subst}
use Rattle.mini_model.specs.Faults.{fault_of}
use Rattle.mini_scope.specs.Pointers.{IsBelow}
use Rattle.mini_scope.proofs.Keys.{other_step}
use Rattle.mini_scope.proofs.pointer.under_child.Goals as goal

pub returns-in_default : goal.returns-in_default
returns-in_default c =
    subst (λ k. IsBelow k (fault_of c.args.error) (fault_of c.under.result))
    (ap (λ k. 47 ∷ k) c.key_of.ensures ∙ other_step c.args.shape.now c.args.shift c.args.at c.in_default.not-Listed c.in_default.not-InnerExpression)
    c.under.ensures

use Rattle.std.proofs.Common.{◌∙◌, ap, sym, ◌++◌, ◌∷◌, [], append_assoc}
use Rattle.mini_context.proofs.giving.enter_scope.Goals as goal

pub loop-binding-preserved : goal.loop-binding-preserved
loop-binding-preserved c = (
  c.in_ok-push.ensures ∙ ap (λ r. r ++ c.in-Some.binding ∷ []) c.loop-binding.invariant.0 ∙ append_assoc c.args.environment.now c.loop-binding.yielded (c.in-Some.binding ∷ []),
  append_assoc c.loop-binding.yielded (c.in-Some.binding ∷ []) _ ∙ ap (λ r. c.loop-binding.yielded ++ r) (sym c.in-Some.ensures.steps.0) ∙ c.loop-binding.invariant.1,
)

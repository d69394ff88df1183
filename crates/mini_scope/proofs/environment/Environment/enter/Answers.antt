use Rattle.std.proofs.Common.{◌∙◌, ap, sym, ◌++◌, ◌∷◌, [], append_assoc}
use Rattle.mini_scope.proofs.Places.{entered, one_more}
use Rattle.mini_scope.proofs.environment.Environment.enter.Goals as goal

pub loop-binding-preserved : goal.loop-binding-preserved
loop-binding-preserved c = (
  one_more c.args.next c.loop-binding.symbol c.loop-binding.yielded c.in-Some.binding c.loop-binding.invariant.0,
  c.in_ok-push.ensures ∙ entered c.args.next c.loop-binding.symbol c.args.self.now c.loop-binding.self c.loop-binding.yielded c.in-Some.binding c.loop-binding.invariant.0 c.loop-binding.invariant.1,
  append_assoc c.loop-binding.yielded (c.in-Some.binding ∷ []) _ ∙ ap (λ r. c.loop-binding.yielded ++ r) (sym c.in-Some.ensures.steps.0) ∙ c.loop-binding.invariant.2,
)

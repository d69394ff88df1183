use Rattle.std.proofs.Common.{rules, ◌∙◌, ap, sym, ◌++◌, ◌∷◌, [], append_assoc}
use Rattle.mini_scope.proofs.Once.{at_first, added, kept}
use Rattle.mini_scope.proofs.distinct.add_distinct.Goals as goal

pub loop-name-init : goal.loop-name-init
loop-name-init c = (λ seen e. at_first c.args.hoists seen _ e, search rules)

pub loop-name-preserved-in-Continue-1 : goal.loop-name-preserved-in-Continue-1
loop-name-preserved-in-Continue-1 c = (
  λ seen e. added c.args.hoists seen c.loop-name.yielded c.in-Some.name c.loop-name.scope c.push.new.self c.has.result (c.loop-name.invariant.0 seen e) c.has.ensures c.if-not-has.true c.in_ok-push.ensures,
  append_assoc c.loop-name.yielded (c.in-Some.name ∷ []) _ ∙ ap (λ r. c.loop-name.yielded ++ r) (sym c.in-Some.ensures.steps.0) ∙ c.loop-name.invariant.1,
)

pub loop-name-preserved : goal.loop-name-preserved
loop-name-preserved c = (
  λ seen e. kept c.args.hoists seen c.loop-name.yielded c.in-Some.name c.loop-name.scope c.has.result (c.loop-name.invariant.0 seen e) c.has.ensures c.if-not-has.false,
  append_assoc c.loop-name.yielded (c.in-Some.name ∷ []) _ ∙ ap (λ r. c.loop-name.yielded ++ r) (sym c.in-Some.ensures.steps.0) ∙ c.loop-name.invariant.1,
)

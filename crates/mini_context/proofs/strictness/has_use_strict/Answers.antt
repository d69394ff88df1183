use Rattle.std.proofs.Common.{◌+◌, ◌∙◌, ◌||◌, drop, sym, ap, arith}
use Rattle.std.proofs.lemmas.List.{drop_all}
use Rattle.mini_laws.specs.Strict.{has_use_strict}
use Rattle.mini_context.proofs.Evals.{strict_step}
use Rattle.mini_context.proofs.strictness.has_use_strict.Goals as goal

pub returns-then-is_use_strict : goal.returns-then-is_use_strict
returns-then-is_use_strict c = sym (c.loop-directive.invariant ∙ strict_step c.args.directives.now c.loop-directive.directive-index c.directive-item.result c.loop-directive-test.true c.directive-item.is ∙ ap (λ b. b || has_use_strict (drop (c.loop-directive.directive-index + 1) c.args.directives.now)) (sym c.if-is_use_strict.ensures))

pub loop-directive-preserved : goal.loop-directive-preserved
loop-directive-preserved c = c.loop-directive.invariant ∙ strict_step c.args.directives.now c.loop-directive.directive-index c.directive-item.result c.loop-directive-test.true c.directive-item.is ∙ ap (λ b. b || has_use_strict (drop (c.loop-directive.directive-index + 1) c.args.directives.now)) (sym c.if-is_use_strict.ensures)

pub returns : goal.returns
returns c = sym (c.loop-directive.invariant ∙ ap has_use_strict (drop_all c.loop-directive.directive-index c.args.directives.now (omega arith)))

use Rattle.std.proofs.Common.{◌∙◌, ap, sym, arith}
use Rattle.mini_model.specs.Tree.{child_or_absent}
use Rattle.mini_fold.specs.FoldTemplates.{sewn}
use Rattle.mini_fold.proofs.Templates.{stops}
use Rattle.mini_fold.proofs.rewrites.fold_templates.sewn_at.Goals as goal

pub returns-in-Some-clause-any : goal.returns-in-Some-clause-any
returns-in-Some-clause-any c =
    let first = child_or_absent c.args.texts.now c.loop-at.at in
    let part = child_or_absent c.args.parts.now c.loop-at.at in
    stops c.args.spared c.args.texts.now c.args.parts.now c.loop-at.at c.in-Some.joined c.requires (omega (arith, c.len-at-end.ensures))
    (sym c.in-Some.is ∙ c.in_ok-made.ensures ∙ ap (λ t. sewn c.args.spared t c.child-in-loop-at.result.now c.child-in-loop-at-2.result.now) c.child.ensures.value ∙ ap (λ t. sewn c.args.spared first t c.child-in-loop-at-2.result.now) c.child-in-loop-at.ensures.value ∙ ap (λ t. sewn c.args.spared first part t) c.child-in-loop-at-2.ensures.value)
    c.loop-at.invariant
